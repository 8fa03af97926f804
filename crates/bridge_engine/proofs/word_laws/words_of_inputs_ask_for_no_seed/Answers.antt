use Rattle.bridge_engine.proofs.Given.{seed_is_first}
use Rattle.bridge_engine.proofs.word_laws.words_of_inputs_ask_for_no_seed.Goals as goal

pub returns : goal.returns
returns c = seed_is_first
