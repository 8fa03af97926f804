use Rattle.lnav_subframe.proofs.ParityFunctions.{source-is, source-only}
use Rattle.lnav_subframe.proofs.word_laws.source_function.Goals as goal

pub returns-clause-are : goal.returns-clause-are
returns-clause-are c = source-is

pub returns-clause-only : goal.returns-clause-only
returns-clause-only c = source-only
