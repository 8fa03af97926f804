use Rattle.capture_lines.proofs.Items.{stands, only}
use Rattle.capture_lines.proofs.laws.each_line_stands_for_one_thing.Goals as goal

pub returns-clause-some : goal.returns-clause-some
returns-clause-some c = stands

pub returns-clause-only : goal.returns-clause-only
returns-clause-only c = only
