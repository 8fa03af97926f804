-- What proofs of other crates cite: that there is one CRC, the CRC of bytes and of sums, and the register over bytes.
pub use Rattle.nav_bits.proofs.DivisionLemmas.{one_remainder}
pub use Rattle.nav_bits.proofs.MessageLemmas.{crc_of_bytes}
pub use Rattle.nav_bits.proofs.BitLemmas.{crc_of_sum}
pub use Rattle.nav_bits.proofs.RegisterLaws.{with_byte_of-lt, crc_from-lt, crc_from-append, crc_of_part}
