use Rattle.nav_lists.specs.Merging.{merged_of}
use Rattle.nav_files.proofs.KeptLemmas.{nothing_counted}
use Rattle.nav_files.proofs.runs.run_merge.Goals as goal

pub run_file-requires : goal.run_file-requires
unfolding merged_of
run_file-requires g c = record { nothing = (c.new-2.ensures, nothing_counted _ c.new-2.ensures, c.new.ensures); known = λ read h. h }
