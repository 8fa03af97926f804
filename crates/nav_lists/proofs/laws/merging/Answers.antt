use Rattle.nav_lists.proofs.MergeLemmas.{is_merged, merged_only, merged_set, merged_swapped, merged_twice, merged_again}
use Rattle.nav_lists.proofs.laws.merging.Goals as goal

pub returns-clause-are : goal.returns-clause-are
returns-clause-are c = is_merged

pub returns-clause-only : goal.returns-clause-only
returns-clause-only c = merged_only

pub returns-clause-set : goal.returns-clause-set
returns-clause-set c = merged_set

pub returns-clause-swapped : goal.returns-clause-swapped
returns-clause-swapped c = merged_swapped

pub returns-clause-twice : goal.returns-clause-twice
returns-clause-twice c = merged_twice

pub returns-clause-again : goal.returns-clause-again
returns-clause-again c = merged_again
