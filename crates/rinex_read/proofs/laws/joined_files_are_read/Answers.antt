use Rattle.rinex_read.proofs.FileLemmas.{joined_list, joined_reads}
use Rattle.rinex_read.proofs.laws.joined_files_are_read.Goals as goal

pub returns-clause-list : goal.returns-clause-list
returns-clause-list c = joined_list

pub returns-clause-records : goal.returns-clause-records
returns-clause-records c = joined_reads
