use Rattle.scaled_decimal.proofs.FarLemmas.{is_scale}
use Rattle.scaled_decimal.proofs.laws.accepted_scales_are_scales.Goals as goal

pub returns : goal.returns
returns c = is_scale
