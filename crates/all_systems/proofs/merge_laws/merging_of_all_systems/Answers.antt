use Rattle.all_systems.proofs.MergeLaws.{merged_again, merged_nav_set, merged_order, merged_rows, merged_set}
use Rattle.all_systems.proofs.merge_laws.merging_of_all_systems.Goals as goal

pub returns-clause-navs : goal.returns-clause-navs
returns-clause-navs c = merged_nav_set c.ranking.ensures.are c.merging.ensures.are

pub returns-clause-rows : goal.returns-clause-rows
returns-clause-rows c = merged_rows

pub returns-clause-order : goal.returns-clause-order
returns-clause-order c = merged_order c.ranking.ensures.are c.ranking-2.ensures.are

pub returns-clause-again : goal.returns-clause-again
returns-clause-again c = merged_again c.ranking.ensures.again c.ranking-2.ensures.again

pub returns-clause-set : goal.returns-clause-set
returns-clause-set c = merged_set c.ranking.ensures.set c.ranking-2.ensures.set
