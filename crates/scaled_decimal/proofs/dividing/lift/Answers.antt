use Rattle.std.proofs.Common.{◌-◌, refl, arith}
use Rattle.scaled_decimal.proofs.GuessLemmas.{lifted_none, lifted_some}
use Rattle.scaled_decimal.proofs.dividing.lift.Goals as goal

pub returns-then-up-down : goal.returns-then-up-down
returns-then-up-down c =
    lifted_none c.args.digits c.args.up c.args.down (c.args.down - c.args.up) c.if-up-down.true refl c.requires.digits (omega (arith, c.if-tens-gt20.false))

pub returns : goal.returns
returns c =
    lifted_some c.args.digits c.args.up c.args.down c.power_of_ten.result (c.args.up - c.args.down) (omega (arith, c.if-up-down.false)) refl
    (omega (arith, c.if-power-gt5.false)) (omega (arith, c.if-digits-ge10000000000000.false)) c.power_of_ten.ensures
