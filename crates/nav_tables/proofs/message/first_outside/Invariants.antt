use Rattle.std.proofs.Common.{◌≡◌, drop}
use Rattle.nav_tables.specs.Messages.{first_outside}
use Rattle.nav_tables.proofs.message.first_outside.Given as goal

abbrev pub invariant-loop-i : goal.invariant-loop-i
invariant-loop-i l = first_outside l.i (drop l.i l.fields)
    (drop l.i l.numbers) ≡ first_outside 0 l.fields l.numbers
