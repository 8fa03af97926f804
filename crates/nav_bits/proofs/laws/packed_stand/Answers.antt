use Rattle.nav_bits.specs.Packed.{pack}
use Rattle.nav_bits.proofs.PackedFields.{are_bytes, fields_stand, zeros_stand}
use Rattle.nav_bits.proofs.laws.packed_stand.Goals as goal

pub returns-clause-fields : goal.returns-clause-fields
returns-clause-fields c = fields_stand

pub returns-clause-zeros : goal.returns-clause-zeros
returns-clause-zeros c = zeros_stand

pub returns-clause-bytes : goal.returns-clause-bytes
returns-clause-bytes c = λ n fields. are_bytes n (pack 0 fields)
