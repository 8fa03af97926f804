use Rattle.nav_tables.proofs.PieceLemmas.{split_joined}
use Rattle.nav_tables.proofs.piece_laws.split_numbers_join.Goals as goal

pub returns : goal.returns
returns c = split_joined
