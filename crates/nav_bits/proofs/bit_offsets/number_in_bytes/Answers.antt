use Rattle.std.proofs.Common.{◌-◌, ◌*◌, ◌/◌, ◌^◌, bit_and, ap, ◌∙◌, arith}
use Rattle.nav_bits.proofs.EightBytes.{number_at-of_eight}
use Rattle.nav_bits.proofs.bit_offsets.number_in_bytes.Goals as goal

pub returns : goal.returns
returns c =
    let skip = c.args.at - 8 * c.min-first.result in
    ap (λ n. bit_and (n / 2 ^ (64 - skip - c.args.width)) (18446744073709551615 / 2 ^ (64 - c.args.width))) c.eight_bytes.ensures
    ∙ number_at-of_eight c.args.bytes.now (8 * c.min-first.result) c.args.at skip c.args.width (omega arith) (omega arith)
