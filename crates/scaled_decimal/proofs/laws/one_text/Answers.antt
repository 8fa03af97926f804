use Rattle.scaled_decimal.proofs.TextLemmas.{text_is, is_text}
use Rattle.scaled_decimal.proofs.laws.one_text.Goals as goal

pub returns : goal.returns
returns c = λ s z text scale small. (text_is s z text scale small, is_text s z text scale small)
