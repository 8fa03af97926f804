use Rattle.nav_io.proofs.LaterCalls.{too_many_line, too_many_read}
use Rattle.nav_io.proofs.laws.too_many_bytes_stay_too_many.Goals as goal

pub returns : goal.returns
returns c = record {
  answer = too_many_line;
  read = too_many_read;
}
