use Rattle.nav_io.proofs.PieceLaws.{pieces_are, pieces_only}
use Rattle.nav_io.proofs.laws.pieces_are_those_between_the_ends.Goals as goal

pub returns : goal.returns
returns c = record {
  exist = pieces_are;
  only = pieces_only;
}
