use Rattle.lnav_subframe.proofs.ParityFunctions.{solved-is, solved-lt}
use Rattle.lnav_subframe.proofs.word_laws.solved_function.Goals as goal

pub returns-clause-solved : goal.returns-clause-solved
returns-clause-solved c = solved-is

pub returns-clause-fits : goal.returns-clause-fits
returns-clause-fits c = solved-lt
