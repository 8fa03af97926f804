use Rattle.std.proofs.Common.{◌≡◌, ◌++◌}
use Rattle.sent_captures.specs.Lines.{halves_at}
use Rattle.sent_captures.proofs.sending.push_halves.Given as goal

abbrev pub invariant-satellites : goal.invariant-satellites
invariant-satellites l = l.sent.items ≡ l.initial.sent.items ++ halves_at l.stamp l.i
