use Rattle.lnav_subframe.proofs.ParityFunctions as functions
use Rattle.lnav_subframe.proofs.word_laws.one_source.Goals as goal

pub returns : goal.returns
returns c = functions.one_source
