use Rattle.nav_rows.proofs.EncodeLemmas.{rows_back}
use Rattle.nav_rows.proofs.laws.rows_come_back.Goals as goal

pub returns : goal.returns
returns c = rows_back
