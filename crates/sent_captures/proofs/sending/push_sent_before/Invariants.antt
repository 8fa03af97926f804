use Rattle.std.proofs.Common.{◌≡◌, ◌++◌}
use Rattle.sent_captures.specs.Lines.{sent_before}
use Rattle.sent_captures.proofs.sending.push_sent_before.Given as goal

abbrev pub invariant-stamps : goal.invariant-stamps
invariant-stamps l = l.sent.items ≡ l.initial.sent.items ++ sent_before l.sats l.stamp
