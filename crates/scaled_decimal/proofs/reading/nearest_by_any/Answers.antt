use Rattle.std.proofs.Common.{◌*◌, ◌^◌, ◌<◌, arith, mul-pos}
use Rattle.scaled_decimal.proofs.PowerLemmas.{power_pos}
use Rattle.scaled_decimal.proofs.QuotientLemmas.{nearest_none}
use Rattle.scaled_decimal.proofs.reading.nearest_by_any.Goals as goal

pub nearest-requires : goal.nearest-requires
nearest-requires c =
    let some : 0 < c.args.over * 10 ^ c.args.down = mul-pos c.requires.over (power_pos c.args.down) in
    omega (arith, c.in-Some-Some.ensures'.1)

pub returns-in_default-None : goal.returns-in_default-None
returns-in_default-None c =
    let below : c.args.over * 10 ^ c.args.down < 2 ^ 128 → ⊥ = c.in_default-None.ensures' in
    nearest_none c.args.digits c.args.up c.args.down c.args.over c.args.bits
    c.requires.digits c.requires.one c.requires.most c.requires.bits (omega (arith, below))
