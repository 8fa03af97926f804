use Rattle.nav_files.proofs.SetLemmas.{set_contains}
use Rattle.nav_files.proofs.diff_laws.sets_contain_their_items.Goals as goal

pub returns : goal.returns
returns c = set_contains
