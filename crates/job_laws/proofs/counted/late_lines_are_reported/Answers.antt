use Rattle.job_laws.proofs.Watermarks.{late_lines, malformed_lines}
use Rattle.job_laws.proofs.counted.late_lines_are_reported.Goals as goal

pub returns-clause-late : goal.returns-clause-late
returns-clause-late c = late_lines c.late_is_behind_the_greatest_stamp.ensures

pub returns-clause-malformed : goal.returns-clause-malformed
returns-clause-malformed c = malformed_lines
