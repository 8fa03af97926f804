use Rattle.sent_captures.proofs.Counts.{count_lines}
use Rattle.sent_captures.proofs.seed_laws.lines_are_counted.Goals as goal

pub returns : goal.returns
returns c = count_lines
