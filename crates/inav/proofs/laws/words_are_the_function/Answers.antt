use Rattle.inav.proofs.Deciding.{words_are}
use Rattle.inav.proofs.laws.words_are_the_function.Goals as goal

pub returns : goal.returns
returns c = words_are
