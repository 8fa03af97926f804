-- CRC registers for some bytes; only the contracts of the window's parts cite it.
use Rattle.std.specs.Prelude.{◌≡◌, ℕ, ◌+◌, ◌^◌, ◌<◌, ◌≤◌, List, length, slice_index}
use Rattle.nav_bits.specs.Register.{with_byte_of}

-- Each register is the one before it advanced by one byte. The first may be any register; the last may be before any byte.
pub record AreStates (bytes states : List ℕ) : Type 0 where
  pub some : 1 ≤ length states
  pub most : length states ≤ length bytes + 1
  pub first : slice_index states 0 < 2 ^ 24
  pub steps : (i : ℕ) → i + 1 < length states → slice_index states (i + 1) ≡ with_byte_of (slice_index states i) (slice_index bytes i)
