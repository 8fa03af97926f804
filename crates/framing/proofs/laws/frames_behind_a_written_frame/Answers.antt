use Rattle.framing.proofs.WriteLaws.{written_first}
use Rattle.framing.proofs.laws.frames_behind_a_written_frame.Goals as goal

pub returns : goal.returns
returns c = written_first
