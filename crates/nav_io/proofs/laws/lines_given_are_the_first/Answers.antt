use Rattle.nav_io.proofs.LaterCalls.{given_first, given_ended}
use Rattle.nav_io.proofs.ReadsLaws.{reads_more}
use Rattle.nav_io.proofs.laws.lines_given_are_the_first.Goals as goal

pub returns : goal.returns
returns c = record {
  first = given_first;
  ended = given_ended;
  more = reads_more;
}
