use Rattle.std.proofs.Common.{◌*◌, ap, arith}
use Rattle.scaled_decimal.proofs.LiftLemmas.{wide_fits, wider_fits}
use Rattle.scaled_decimal.proofs.lifting.product_of_fives.Goals as goal

pub overflow_mul-result : goal.overflow_mul-result
overflow_mul-result c =
    let fits = wide_fits c.args.over c.args.lift c.wide_power_of_five.result c.requires c.if-lift-le19.true c.wide_power_of_five.ensures in
    omega arith

pub returns-then-lift-le19 : goal.returns-then-lift-le19
returns-then-lift-le19 c = (
  ap (λ n. c.args.over * n) c.wide_power_of_five.ensures,
  wide_fits c.args.over c.args.lift c.wide_power_of_five.result c.requires c.if-lift-le19.true c.wide_power_of_five.ensures,
  omega (arith, c.if-lift-le19.true),
)

pub overflow_mul-result-2 : goal.overflow_mul-result-2
overflow_mul-result-2 c =
    let fits = wider_fits c.args.over c.args.lift c.wide_power_of_five-2.result (omega (arith, c.if-over.false)) (omega (arith, c.if-lift-gt30.false)) c.wide_power_of_five-2.ensures in
    omega arith

pub returns : goal.returns
returns c = (
  ap (λ n. c.args.over * n) c.wide_power_of_five-2.ensures,
  wider_fits c.args.over c.args.lift c.wide_power_of_five-2.result (omega (arith, c.if-over.false)) (omega (arith, c.if-lift-gt30.false)) c.wide_power_of_five-2.ensures,
  omega (arith, c.if-lift-gt30.false),
)
