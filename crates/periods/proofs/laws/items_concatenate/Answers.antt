use Rattle.periods.proofs.ListLemmas.{items_append}
use Rattle.periods.proofs.laws.items_concatenate.Goals as goal

pub returns : goal.returns
returns c = items_append
