use Rattle.inav.proofs.PageNumbers.{only_parts, parts_split}
use Rattle.inav.proofs.laws.halves_are_the_functions.Goals as goal

pub returns-clause-split : goal.returns-clause-split
returns-clause-split c = parts_split

pub returns-clause-only : goal.returns-clause-only
returns-clause-only c = only_parts
