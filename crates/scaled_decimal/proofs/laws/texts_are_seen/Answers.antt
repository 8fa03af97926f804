use Rattle.scaled_decimal.proofs.TextLemmas.{seen_stands, stands_seen}
use Rattle.scaled_decimal.proofs.BlankLemmas.{blanks_of, blank_of}
use Rattle.scaled_decimal.proofs.laws.texts_are_seen.Goals as goal

pub returns-clause-as_numbers : goal.returns-clause-as_numbers
returns-clause-as_numbers c = λ s text z scale. (seen_stands s text z scale.some, stands_seen s text z scale.some)

pub returns-clause-as_blanks : goal.returns-clause-as_blanks
returns-clause-as_blanks c = λ s text. (blanks_of s text, blank_of s text)
