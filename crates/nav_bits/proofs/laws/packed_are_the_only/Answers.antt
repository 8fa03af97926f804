use Rattle.nav_bits.proofs.PackedFields.{only_packed}
use Rattle.nav_bits.proofs.laws.packed_are_the_only.Goals as goal

pub returns : goal.returns
returns c = only_packed
