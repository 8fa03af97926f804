use Rattle.capture_lines.proofs.Lateness.{stamp_of_line}
use Rattle.capture_lines.proofs.laws.stamps_have_32_bits.Goals as goal

pub returns : goal.returns
returns c = stamp_of_line
