use Rattle.std.proofs.Common.{◌≡◌, ◌++◌}
use Rattle.sent_captures.specs.Capture.{reversed_blocks}
use Rattle.sent_captures.proofs.sending.push_reversed_blocks.Given as goal

abbrev pub invariant-loop-block : goal.invariant-loop-block
invariant-loop-block l = l.order.items ≡ l.initial.order.items ++ reversed_blocks l.sent l.block
