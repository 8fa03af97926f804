use Rattle.std.proofs.Common.{◌≡◌, ◌++◌, ◌-◌, length, drop, reverse}
use Rattle.sent_captures.proofs.sending.push_reversed.Given as goal

abbrev pub invariant-places : goal.invariant-places
invariant-places l = l.order.items ≡ l.initial.order.items ++ reverse (drop (length l.block - l.i) l.block)
