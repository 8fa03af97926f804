use Rattle.std.proofs.Common.{arith}
use Rattle.framing.proofs.FrameLaws.{frames_stay}
use Rattle.framing.proofs.laws.decided_frames_stay.Goals as goal

pub returns : goal.returns
returns c = λ bytes more. frames_stay bytes more 0 (omega arith)
