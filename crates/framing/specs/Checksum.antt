-- The checksum of a frame (RTCM 10403.3, section 4): CRC-24Q.
use Rattle.std.specs.Prelude.{ℕ, List}
use Rattle.nav_bits.specs.Register.{crc_from}

-- the checksum of some bytes
abbrev pub checksum : List ℕ → ℕ
checksum bytes = crc_from 0 bytes
