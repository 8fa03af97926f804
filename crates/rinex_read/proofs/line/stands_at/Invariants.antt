use Rattle.std.proofs.Common.{◌≡◌, ◌+◌, drop}
use Rattle.rinex_read.specs.Lines.{stands_at}
use Rattle.rinex_read.proofs.line.stands_at.Given as goal

abbrev pub invariant-loop-i : goal.invariant-loop-i
invariant-loop-i l = stands_at l.place l.text l.line ≡ stands_at (l.place + l.i) (drop l.i l.text) l.line
