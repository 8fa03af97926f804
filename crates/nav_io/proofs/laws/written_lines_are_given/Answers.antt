use Rattle.nav_io.proofs.WrittenLines.{line_given}
use Rattle.nav_io.proofs.laws.written_lines_are_given.Goals as goal

pub returns : goal.returns
returns c = line_given
