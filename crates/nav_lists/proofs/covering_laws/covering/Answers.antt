use Rattle.nav_lists.proofs.CoverLemmas.{are_covers, covers_only, covers_set}
use Rattle.nav_lists.proofs.covering_laws.covering.Goals as goal

pub returns-clause-are : goal.returns-clause-are
returns-clause-are c = are_covers

pub returns-clause-only : goal.returns-clause-only
returns-clause-only c = covers_only

pub returns-clause-set : goal.returns-clause-set
returns-clause-set c = covers_set
