use Rattle.std.proofs.Common.{◌≡◌, drop}
use Rattle.whole_file.specs.Entries.{bytes_at}
use Rattle.whole_file.proofs.entries.found.Given as goal

-- what was passed says nothing of the name
abbrev pub invariant-loop-entry : goal.invariant-loop-entry
invariant-loop-entry l = bytes_at l.entries l.name ≡ bytes_at (drop l.entry-index l.entries) l.name
