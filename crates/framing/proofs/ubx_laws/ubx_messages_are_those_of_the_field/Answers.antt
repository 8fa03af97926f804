use Rattle.framing.proofs.UbxFieldLaws.{sized_begins, begun_sized}
use Rattle.framing.proofs.ubx_laws.ubx_messages_are_those_of_the_field.Goals as goal

pub returns : goal.returns
returns c = λ bytes n are. (λ s. sized_begins bytes n are s.0 s.1, λ m. begun_sized bytes n are m)
