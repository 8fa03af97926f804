use Rattle.std.proofs.Common.{rules}
use Rattle.whole_file.proofs.looking.form_of.Goals as goal

pub returns-in-Some-default : goal.returns-in-Some-default
returns-in-Some-default c = search rules
