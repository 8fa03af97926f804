use Rattle.nav_io.proofs.LaterCalls.{given_whole, given_so_far}
use Rattle.nav_io.proofs.laws.lines_given_are_those_of_the_bytes.Goals as goal

pub returns : goal.returns
returns c = record {
  whole = given_whole;
  so_far = given_so_far;
}
