use Rattle.rinex_read.proofs.FileLemmas.{list_again, file_again}
use Rattle.rinex_read.proofs.laws.files_are_read.Goals as goal

pub returns-clause-list : goal.returns-clause-list
returns-clause-list c = list_again

pub returns-clause-records : goal.returns-clause-records
returns-clause-records c = file_again
