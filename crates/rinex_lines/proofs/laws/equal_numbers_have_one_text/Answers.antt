use Rattle.rinex_lines.proofs.Alike.{texts_same}
use Rattle.rinex_lines.proofs.laws.equal_numbers_have_one_text.Goals as goal

pub returns : goal.returns
returns c = texts_same
