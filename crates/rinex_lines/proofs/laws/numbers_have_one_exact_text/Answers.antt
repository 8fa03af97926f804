use Rattle.rinex_lines.proofs.PartsLemmas.{exact_parts, parts_exact}
use Rattle.rinex_lines.proofs.laws.numbers_have_one_exact_text.Goals as goal

pub returns : goal.returns
returns c = λ r p small. (parts_exact r p small, exact_parts r p small)
