use Rattle.capture_lines.proofs.Printed.{printed, short}
use Rattle.capture_lines.proofs.laws.spellings_are_lines.Goals as goal

pub returns-clause-printed : goal.returns-clause-printed
returns-clause-printed c = printed

pub returns-clause-short : goal.returns-clause-short
returns-clause-short c = short
