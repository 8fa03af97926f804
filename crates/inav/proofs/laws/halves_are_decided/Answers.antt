use Rattle.inav.proofs.Deciding.{are_partners_decides, has_half_decides, makes_word_decides}
use Rattle.inav.proofs.laws.halves_are_decided.Goals as goal

pub returns-clause-among : goal.returns-clause-among
returns-clause-among c = has_half_decides

pub returns-clause-word : goal.returns-clause-word
returns-clause-word c = makes_word_decides

pub returns-clause-partners : goal.returns-clause-partners
returns-clause-partners c = are_partners_decides
