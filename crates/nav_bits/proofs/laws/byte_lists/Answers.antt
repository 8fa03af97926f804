use Rattle.nav_bits.proofs.PackedFields.{are_bytes, one_list}
use Rattle.nav_bits.proofs.WholeNumbers.{number_at-bytes_of}
use Rattle.nav_bits.proofs.laws.byte_lists.Goals as goal

pub returns-clause-bytes : goal.returns-clause-bytes
returns-clause-bytes c = are_bytes

pub returns-clause-number : goal.returns-clause-number
returns-clause-number c = number_at-bytes_of

pub returns-clause-one : goal.returns-clause-one
returns-clause-one c = one_list
