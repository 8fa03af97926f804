use Rattle.framing.proofs.FrameLaws.{frames_after}
use Rattle.framing.proofs.laws.frames_after_the_first.Goals as goal

pub returns : goal.returns
returns c = λ bytes. frames_after bytes
