use Rattle.all_systems.proofs.CarriedLaws.{entries_items, record_order, record_set}
use Rattle.all_systems.proofs.merge_laws.merging_of_carried_records.Goals as goal

pub returns-clause-items : goal.returns-clause-items
returns-clause-items c = entries_items

pub returns-clause-records : goal.returns-clause-records
returns-clause-records c = record_set c.ranking.ensures.are

pub returns-clause-order : goal.returns-clause-order
returns-clause-order c = record_order c.ranking.ensures.are
