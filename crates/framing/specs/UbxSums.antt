-- Running sums of bytes; only contracts of the judge's parts cite them.
use Rattle.std.specs.Prelude.{◌≡◌, ℕ, ◌+◌, ◌%◌, ◌<◌, ◌≤◌, List, length, slice_index}

-- Each sum adds one byte to the one before it, and each running sum adds that sum, modulo 256. They may start from any sums
-- and end before any byte.
pub record AreSums (bytes sums runs : List ℕ) : Type 0 where
  pub some : 1 ≤ length sums
  pub most : length sums ≤ length bytes + 1
  pub same : length runs ≡ length sums
  pub sum_steps : (i : ℕ) → i + 1 < length sums
      → slice_index sums (i + 1) ≡ (slice_index sums i + slice_index bytes i) % 256
  pub run_steps : (i : ℕ) → i + 1 < length sums
      → slice_index runs (i + 1) ≡ (slice_index runs i + slice_index sums (i + 1)) % 256
