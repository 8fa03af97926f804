use Rattle.std.proofs.Common.{◌≡◌, length}
use Rattle.streams.specs.Times.{times_of, times_with}
use Rattle.nav_files.proofs.merge.times_in.Given as goal

abbrev pub invariant-items : goal.invariant-items
invariant-items l = times_with l.times l.left ≡ times_of l.merge

abbrev pub decreases-items : goal.decreases-items
decreases-items l = length l.left
