use Rattle.nav_tables.proofs.PieceLemmas.{read_pieces_stand}
use Rattle.nav_tables.proofs.piece_laws.read_numbers_stand.Goals as goal

pub returns : goal.returns
returns c = read_pieces_stand
