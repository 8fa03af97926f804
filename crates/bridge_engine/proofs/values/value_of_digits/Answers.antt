use Rattle.bridge_engine.proofs.DigitTexts.{next_value}
use Rattle.std.proofs.Common.{arith}
use Rattle.bridge_engine.proofs.values.value_of_digits.Goals as goal

pub digits-preserved : goal.digits-preserved
digits-preserved c =
    next_value c.args.text.now c.digits.i c.digits.value c.from.result c.requires.digits (omega arith) c.digits.invariant.0 c.digits.invariant.1 c.from.ensures
