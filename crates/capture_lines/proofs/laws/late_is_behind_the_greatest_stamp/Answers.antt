use Rattle.capture_lines.proofs.Lateness.{behind_greatest, late_behind}
use Rattle.capture_lines.proofs.laws.late_is_behind_the_greatest_stamp.Goals as goal

pub returns : goal.returns
returns c = λ window before stamp. (behind_greatest window before stamp, late_behind window before stamp)
