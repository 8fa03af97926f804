use Rattle.lnav_subframe.proofs.Equations as equations
use Rattle.lnav_subframe.proofs.word_laws.one_word.Goals as goal

pub returns : goal.returns
returns c = equations.one_word
