use Rattle.std.proofs.Common.{◌≡◌, ◌++◌}
use Rattle.sent_captures.specs.Lines.{subframes_at}
use Rattle.sent_captures.proofs.sending.push_subframes.Given as goal

abbrev pub invariant-satellites : goal.invariant-satellites
invariant-satellites l = l.sent.items ≡ l.initial.sent.items ++ subframes_at l.stamp l.i
