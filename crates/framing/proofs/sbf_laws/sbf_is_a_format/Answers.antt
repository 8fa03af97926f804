use Rattle.framing.specs.SbfFormLaws.{sbf_is_heading}
use Rattle.framing.proofs.sbf_laws.sbf_is_a_format.Goals as goal

pub returns : goal.returns
returns c = sbf_is_heading
