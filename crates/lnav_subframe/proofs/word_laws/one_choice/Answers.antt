use Rattle.lnav_subframe.proofs.Choice.{one_solved}
use Rattle.lnav_subframe.proofs.word_laws.one_choice.Goals as goal

pub returns : goal.returns
returns c = one_solved
