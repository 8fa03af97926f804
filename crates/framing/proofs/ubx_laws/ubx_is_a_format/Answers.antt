use Rattle.framing.specs.UbxFormLaws.{ubx_is_heading}
use Rattle.framing.proofs.ubx_laws.ubx_is_a_format.Goals as goal

pub returns : goal.returns
returns c = ubx_is_heading
