use Rattle.std.proofs.Common.{◌^◌, ◌*◌, ◌-◌, refl, arith}
use Rattle.std.proofs.lemmas.Nat.{pow_pos}
use Rattle.scaled_decimal.proofs.PrintLemmas.{moved_up, moved_down, moved_under, moved_over}
use Rattle.scaled_decimal.proofs.QuotientLemmas.{two_to_59}
use Rattle.scaled_decimal.proofs.printing.digits_at.Goals as goal

pub overflow_mul-over : goal.overflow_mul-over
overflow_mul-over c =
    let fits = moved_over c.args.over (2 ^ c.args.bits) c.args.place c.power_of_ten.result c.if-place-le12.true
    (two_to_59 c.args.bits c.requires.bits) c.requires.below c.power_of_ten.ensures in
    omega arith

pub nearest_by_ten-requires-clause-fits : goal.nearest_by_ten-requires-clause-fits
nearest_by_ten-requires-clause-fits c = moved_under c.args.over (2 ^ c.args.bits) c.args.place (10 ^ (c.args.place - 12)) c.requires.at_most refl

pub returns-then-place-le12 : goal.returns-then-place-le12
returns-then-place-le12 c = record {
  over' = c.args.over * c.power_of_ten.result;
  under' = 2 ^ c.args.bits;
  moved = moved_up c.args.over (2 ^ c.args.bits) c.args.place c.power_of_ten.result c.if-place-le12.true (pow_pos c.args.bits) c.requires.below c.power_of_ten.ensures;
  nearest = c.nearest_by_two.ensures;
}

pub returns-else-place-le12 : goal.returns-else-place-le12
returns-else-place-le12 c = record {
  over' = c.args.over;
  under' = 2 ^ c.args.bits * 10 ^ (c.args.place - 12);
  moved = moved_down c.args.over (2 ^ c.args.bits) c.args.place (10 ^ (c.args.place - 12)) c.if-place-le12.false (pow_pos c.args.bits) c.requires.below refl;
  nearest = c.nearest_by_ten.ensures;
}
