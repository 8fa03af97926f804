use Rattle.std.proofs.Common.{◌^◌, ◌<◌, arith, mul-pos}
use Rattle.scaled_decimal.proofs.PowerLemmas.{power_pos}
use Rattle.scaled_decimal.proofs.QuotientLemmas.{few_tens}
use Rattle.scaled_decimal.proofs.reading.nearest_by_few.Goals as goal

pub overflow_mul-over : goal.overflow_mul-over
overflow_mul-over c =
    let fits = few_tens c.args.over c.args.down c.power_of_ten-2.result c.requires.most c.requires.down c.power_of_ten-2.ensures in
    omega arith

pub nearest-requires : goal.nearest-requires
nearest-requires c =
    let some : 0 < 10 ^ c.args.down = power_pos c.args.down in
    mul-pos c.requires.over (omega (arith, c.power_of_ten-2.ensures))
