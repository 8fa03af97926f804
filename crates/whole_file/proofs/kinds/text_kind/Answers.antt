use Rattle.std.proofs.Common.{rules}
use Rattle.whole_file.specs.Kinds.{text_kind}
use Rattle.whole_file.proofs.kinds.text_kind.Goals as goal

pub returns-then-is_labelled-2 : goal.returns-then-is_labelled-2
unfolding text_kind
returns-then-is_labelled-2 c = search rules

pub returns-else-is_labelled-2 : goal.returns-else-is_labelled-2
unfolding text_kind
returns-else-is_labelled-2 c = search rules
