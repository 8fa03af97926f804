-- Lemmas that proofs of other crates cite.
pub use Rattle.nav_bits.proofs.CrcSurface.{crc_from-append, crc_from-lt, crc_of_bytes, crc_of_part, crc_of_sum, one_remainder}
pub use Rattle.nav_bits.proofs.CrcSurface.{with_byte_of-lt}
pub use Rattle.nav_bits.proofs.NavBitsSurface.{are_bytes, bytes_of-length, bytes_of-lt, fields_stand, number_at-bytes_of, number_at-of_whole}
pub use Rattle.nav_bits.proofs.NavBitsSurface.{number_packed, only_packed, pack-lt, packed_number, same_from_number, signed_of-cast}
pub use Rattle.nav_bits.proofs.NavBitsSurface.{signed_of-fits, signed_of-same, signed_of-unsigned, unsigned_of-lt, zeros_stand}
