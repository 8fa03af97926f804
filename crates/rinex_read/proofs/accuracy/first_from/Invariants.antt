use Rattle.std.proofs.Common.{◌≡◌, ◌+◌, drop}
use Rattle.rinex_write.specs.Accuracies.{first_from}
use Rattle.rinex_read.proofs.accuracy.first_from.Given as goal

abbrev pub invariant-loop-place : goal.invariant-loop-place
invariant-loop-place l = first_from l.n l.numbers ≡ l.place + first_from l.n (drop l.place l.numbers)
