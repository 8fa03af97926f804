use Rattle.scaled_decimal.proofs.GrammarLemmas.{read_is, is_read, none_read}
use Rattle.scaled_decimal.proofs.laws.texts_of_the_grammar_are_read.Goals as goal

pub returns-clause-read : goal.returns-clause-read
returns-clause-read c = λ text d. (read_is text d, is_read text d)

pub returns-clause-refused : goal.returns-clause-refused
returns-clause-refused c = none_read
