use Rattle.bridge_engine.proofs.Spellings.{spells_once}
use Rattle.bridge_engine.proofs.word_laws.words_spell_options_in_one_way.Goals as goal

pub returns : goal.returns
returns c = spells_once
