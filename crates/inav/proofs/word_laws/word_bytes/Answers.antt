use Rattle.inav.proofs.WordBytes.{stand1, zeros1, bytes1, stand2, zeros2, bytes2, stand3, zeros3, bytes3, stand4, zeros4, bytes4, stand5, zeros5, bytes5}
use Rattle.inav.proofs.word_laws.word_bytes.Goals as goal

pub returns-clause-word1 : goal.returns-clause-word1
returns-clause-word1 c = stand1

pub returns-clause-zeros1 : goal.returns-clause-zeros1
returns-clause-zeros1 c = zeros1

pub returns-clause-size1 : goal.returns-clause-size1
returns-clause-size1 c = bytes1

pub returns-clause-word2 : goal.returns-clause-word2
returns-clause-word2 c = stand2

pub returns-clause-zeros2 : goal.returns-clause-zeros2
returns-clause-zeros2 c = zeros2

pub returns-clause-size2 : goal.returns-clause-size2
returns-clause-size2 c = bytes2

pub returns-clause-word3 : goal.returns-clause-word3
returns-clause-word3 c = stand3

pub returns-clause-zeros3 : goal.returns-clause-zeros3
returns-clause-zeros3 c = zeros3

pub returns-clause-size3 : goal.returns-clause-size3
returns-clause-size3 c = bytes3

pub returns-clause-word4 : goal.returns-clause-word4
returns-clause-word4 c = stand4

pub returns-clause-zeros4 : goal.returns-clause-zeros4
returns-clause-zeros4 c = zeros4

pub returns-clause-size4 : goal.returns-clause-size4
returns-clause-size4 c = bytes4

pub returns-clause-word5 : goal.returns-clause-word5
returns-clause-word5 c = stand5

pub returns-clause-zeros5 : goal.returns-clause-zeros5
returns-clause-zeros5 c = zeros5

pub returns-clause-size5 : goal.returns-clause-size5
returns-clause-size5 c = bytes5
