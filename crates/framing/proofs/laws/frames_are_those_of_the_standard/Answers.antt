use Rattle.framing.proofs.StandardLaws.{begins_frame, frame_begun}
use Rattle.framing.proofs.laws.frames_are_those_of_the_standard.Goals as goal

pub returns : goal.returns
returns c = λ bytes n b. (
  λ size. begins_frame c.the_register_holds_the_crc.ensures bytes n b size.0 size.1,
  λ begins. frame_begun c.the_register_holds_the_crc.ensures c.one_crc.ensures bytes n b begins,
)
