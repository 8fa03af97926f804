-- What proofs of other crates cite: the values of whole lists of bytes, two's complement, and packed fields.
pub use Rattle.nav_bits.proofs.WholeNumbers.{number_at-of_whole, number_at-bytes_of, same_from_number, bytes_of-lt, bytes_of-length}
pub use Rattle.nav_bits.proofs.TwosComplement.{signed_of-fits, signed_of-same, signed_of-cast}
pub use Rattle.nav_bits.proofs.PackedFields.{unsigned_of-lt, signed_of-unsigned, are_bytes, one_list, fields_stand, zeros_stand, only_packed, number_packed, pack-lt, packed_number}
