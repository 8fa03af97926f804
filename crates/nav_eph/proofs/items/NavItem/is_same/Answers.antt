use Rattle.std.proofs.lemmas.Bool.Decides.{same_from_decides}
use Rattle.nav_eph.proofs.RankLemmas.{same_item-decides}
use Rattle.nav_eph.proofs.items.NavItem.is_same.Goals as goal

pub returns-clause-answer : goal.returns-clause-answer
returns-clause-answer c = same_from_decides _ _ c.equals.ensures (same_item-decides c.args.self.now c.args.other.now)
