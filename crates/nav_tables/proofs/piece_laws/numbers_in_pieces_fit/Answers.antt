use Rattle.nav_tables.proofs.PieceLemmas.{number_in-lt}
use Rattle.nav_tables.proofs.piece_laws.numbers_in_pieces_fit.Goals as goal

pub returns : goal.returns
returns c = number_in-lt
