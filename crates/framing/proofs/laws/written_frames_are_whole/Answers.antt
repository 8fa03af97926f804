use Rattle.framing.proofs.WriteLaws.{written_is_whole, length-frame_bytes, payload_of-frame_bytes}
use Rattle.framing.proofs.laws.written_frames_are_whole.Goals as goal

pub returns-clause-whole : goal.returns-clause-whole
returns-clause-whole c = λ payload short. written_is_whole payload short

pub returns-clause-size : goal.returns-clause-size
returns-clause-size c = λ payload. length-frame_bytes payload

pub returns-clause-payload : goal.returns-clause-payload
returns-clause-payload c = λ payload. payload_of-frame_bytes payload
