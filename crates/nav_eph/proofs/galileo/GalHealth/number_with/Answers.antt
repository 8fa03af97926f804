use Rattle.std.proofs.Common.{arith}
use Rattle.nav_eph.proofs.NumberLemmas.{behind_tag}
use Rattle.nav_eph.proofs.galileo.GalHealth.number_with.Goals as goal

pub returns-clause-value : goal.returns-clause-value
returns-clause-value c =
    rw (behind_tag _ c.args.tag.now) (omega arith)
