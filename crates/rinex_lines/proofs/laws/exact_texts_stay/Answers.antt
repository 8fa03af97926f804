use Rattle.rinex_lines.proofs.Alike.{text_stays}
use Rattle.rinex_lines.proofs.laws.exact_texts_stay.Goals as goal

pub returns : goal.returns
returns c = text_stays
