use Rattle.std.proofs.Common.{◌∙◌}
use Rattle.scaled_decimal.specs.ScaleValue.{size_of}
use Rattle.scaled_decimal.proofs.PrintLemmas.{parts_at_some, parts_at_zero}
use Rattle.scaled_decimal.proofs.printing.parts_at.Goals as goal

pub returns-then-number-eq0 : goal.returns-then-number-eq0
returns-then-number-eq0 c = parts_at_zero (size_of c.args.scale.now) c.args.number c.if-number-eq0.true

pub returns-else-number-eq0 : goal.returns-else-number-eq0
returns-else-number-eq0 c = c.parts_of.ensures ∙ parts_at_some (size_of c.args.scale.now) c.args.number c.if-number-eq0.false
