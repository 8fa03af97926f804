-- Little-endian numbers in receiver messages.
use Rattle.std.specs.Prelude.{ℕ, ◌+◌, ◌*◌, List, slice_index}

-- the two-byte number at byte offset at
abbrev pub two_at : List ℕ → ℕ → ℕ
two_at xs at = slice_index xs at + 256 * slice_index xs (at + 1)

-- the four-byte number
abbrev pub four_at : List ℕ → ℕ → ℕ
four_at xs at = two_at xs at + 65536 * two_at xs (at + 2)

-- the eight-byte number
abbrev pub eight_at : List ℕ → ℕ → ℕ
eight_at xs at = four_at xs at + 4294967296 * four_at xs (at + 4)
