use Rattle.nav_files.proofs.SetLemmas.{no_difference}
use Rattle.nav_files.proofs.diff_laws.no_difference_means_the_same_items.Goals as goal

pub returns : goal.returns
returns c = no_difference
