use Rattle.bridge_engine.proofs.Given.{same_given}
use Rattle.bridge_engine.proofs.word_laws.words_give_values_in_one_way.Goals as goal

pub returns : goal.returns
returns c = same_given
