use Rattle.lnav_subframe.proofs.ParityFunctions.{made-good, made-source, made-lt}
use Rattle.lnav_subframe.proofs.word_laws.made_function.Goals as goal

pub returns-clause-good : goal.returns-clause-good
returns-clause-good c = made-good

pub returns-clause-source : goal.returns-clause-source
returns-clause-source c = made-source

pub returns-clause-fits : goal.returns-clause-fits
returns-clause-fits c = made-lt
