use Rattle.nav_io.proofs.PieceLaws.{ended_are}
use Rattle.nav_io.proofs.LineLaws.{pieces-open}
use Rattle.nav_io.proofs.laws.ended_pieces_are_those_up_to_the_last_end.Goals as goal

pub returns : goal.returns
returns c = record {
  some = ended_are;
  none = pieces-open;
}
