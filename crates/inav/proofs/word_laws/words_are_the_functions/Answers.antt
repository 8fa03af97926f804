use Rattle.inav.proofs.WordBytes.{only_word1, only_word2, only_word3, only_word4, only_word5}
use Rattle.inav.proofs.word_laws.words_are_the_functions.Goals as goal

pub returns-clause-word1 : goal.returns-clause-word1
returns-clause-word1 c = only_word1

pub returns-clause-word2 : goal.returns-clause-word2
returns-clause-word2 c = only_word2

pub returns-clause-word3 : goal.returns-clause-word3
returns-clause-word3 c = only_word3

pub returns-clause-word4 : goal.returns-clause-word4
returns-clause-word4 c = only_word4

pub returns-clause-word5 : goal.returns-clause-word5
returns-clause-word5 c = only_word5
