use Rattle.nav_io.proofs.LaterCalls.{ended_read, ended_long, end_stays}
use Rattle.nav_io.proofs.laws.the_end_stays.Goals as goal

pub returns : goal.returns
returns c = record {
  read = ended_read;
  long = ended_long;
  answer = end_stays;
}
