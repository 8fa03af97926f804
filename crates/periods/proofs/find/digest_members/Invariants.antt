use Rattle.std.proofs.Common.{◌≡◌, None, drop}
use Rattle.periods.specs.PeriodsOf.{members_digest}
use Rattle.periods.proofs.find.digest_members.Given as goal

abbrev pub invariant-loop-part : goal.invariant-loop-part
invariant-loop-part l = members_digest l.key l.end l.before (drop l.part-index l.parts) l.all ≡ members_digest l.key l.end l.before l.parts None
