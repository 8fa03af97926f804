-- A frame in the standard's own terms: numbers at bit offsets (RTCM 10403.3, the transport layer).
use Rattle.std.specs.Prelude.{◌≡◌, ℕ, ◌+◌, ◌-◌, ◌*◌, ◌<◌, ◌≤◌, List, length, slice_index}
use Rattle.nav_bits.specs.Bits.{number_at}
use Rattle.nav_bits.specs.Division.{IsCrc}

-- each number is a byte
abbrev pub AreBytes : List ℕ → Type 0
AreBytes bytes = (i : ℕ) → slice_index bytes i < 256

-- A complete frame of n bytes is at the start of the bytes.
pub record BeginsFrame (bytes : List ℕ) (n : ℕ) : Type 0 where
  -- the preamble, eight bits
  pub preamble : number_at bytes 0 8 ≡ 0xD3
  -- the payload's length, ten bits after six reserved ones; header and checksum are three bytes each
  pub message_length : number_at bytes 14 10 + 6 ≡ n
  -- the bytes hold all of it
  pub whole : n ≤ length bytes
  -- the last 24 bits are the CRC of all before them
  pub crc : IsCrc (number_at bytes 0 (8 * (n - 3))) (number_at bytes (8 * (n - 3)) 24)
