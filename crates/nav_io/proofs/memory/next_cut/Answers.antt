use Rattle.std.proofs.Common.{◌∙◌}
use Rattle.nav_io.proofs.Cuts.{cut_of-first, cut_of-none}
use Rattle.nav_io.proofs.memory.next_cut.Goals as goal

pub returns-in-Some-clause-cut : goal.returns-in-Some-clause-cut
returns-in-Some-clause-cut c = c.max.ensures ∙ cut_of-first _ _ c.in-Some.ensures.value

pub returns-in-None-clause-cut : goal.returns-in-None-clause-cut
returns-in-None-clause-cut c = cut_of-none _ c.in-None.ensures.value
