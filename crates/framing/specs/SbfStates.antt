-- CRC registers after each byte; only contracts of the judge's parts cite them.
use Rattle.std.specs.Prelude.{◌≡◌, ℕ, ◌+◌, ◌*◌, ◌^◌, ◌<◌, ◌≤◌, List, length, slice_index}
use Rattle.framing.specs.SbfRegister.{shift, with_byte_of}

-- Each register is the one before it after one more byte. They may start from any register and end before any byte.
pub record AreStates (bytes states : List ℕ) : Type 0 where
  pub some : 1 ≤ length states
  pub most : length states ≤ length bytes + 1
  pub first : slice_index states 0 < 2 ^ 16
  pub steps : (i : ℕ) → i + 1 < length states
      → slice_index states (i + 1) ≡ with_byte_of (slice_index states i) (slice_index bytes i)

-- powers n is x^(32 n) modulo the generator: n times four zero bytes
pub record ArePowers (powers : List ℕ) : Type 0 where
  pub some : 1 ≤ length powers
  pub each : (n : ℕ) → n < length powers → slice_index powers n ≡ shift (32 * n) 1
