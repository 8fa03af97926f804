use Rattle.std.proofs.Common.{ap, ◌∙◌}
use Rattle.capture_lines.proofs.HexValues.{value_or_32, value_is, digit_is}
use Rattle.capture_lines.proofs.digits.value_of.Goals as goal

pub returns-clause-digit : goal.returns-clause-digit
returns-clause-digit c = rw (value_is c.args.digit c.ranges.digit.fits) (digit_is c.args.digit)

pub returns-clause-value : goal.returns-clause-value
returns-clause-value c = λ value is. value_is c.args.digit c.ranges.digit.fits ∙ ap value_or_32 is
