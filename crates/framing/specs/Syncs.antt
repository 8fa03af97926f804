-- Formats whose messages begin with two sync bytes and give their size in a header of fixed size.
use Rattle.std.specs.Prelude.{◌≡◌, ℕ, ◌<◌, ◌≤◌, ◌==◌, ◌&&◌, ◌||◌, nat_lt, Bool, if◌then◌else◌, List}
use Rattle.std.specs.Prelude.{◌++◌, length, slice_index}
use Rattle.framing.specs.Headings.{Heading}

-- such a format
pub record Sync : Type 0 where
  -- the two sync bytes at the start of each message
  pub first : ℕ
  pub second : ℕ
  -- the size of the header in bytes, sync bytes included
  pub header : ℕ
  -- the size of the longest message
  pub longest : ℕ
  -- the size of the message with this header
  pub size : List ℕ → ℕ
  -- whether a header is possible
  pub fits : List ℕ → Bool
  -- a complete message has the right checksum
  pub is_right : List ℕ → Bool

-- `fits` and `size` depend on the header only, and sizes are from 1 to the longest
pub record IsSync (s : Sync) : Type 0 where
  pub two : 2 ≤ s.header
  pub within : s.header ≤ s.longest
  pub some : (xs : List ℕ) → 0 < s.size xs
  pub most : (xs : List ℕ) → s.size xs ≤ s.longest
  pub size_prefix : (xs ys : List ℕ) → s.header ≤ length xs → s.size (xs ++ ys) ≡ s.size xs
  pub fits_prefix : (xs ys : List ℕ) → s.header ≤ length xs → s.fits (xs ++ ys) ≡ s.fits xs

-- the bytes agree with the start of a message, as far as they go
unfoldable pub begins_by : Sync → List ℕ → Bool
begins_by s xs =
    nat_lt (length xs) 1
    || (slice_index xs 0 == s.first
    && (nat_lt (length xs) 2 || (slice_index xs 1 == s.second
    && (nat_lt (length xs) s.header || s.fits xs))))

-- how many bytes are needed to know more: up to the first, the second, the header, the complete
-- message
unfoldable pub wanted_by : Sync → List ℕ → ℕ
wanted_by s xs =
    if nat_lt (length xs) 1 then 1
    else if nat_lt (length xs) 2 then 2
    else if nat_lt (length xs) s.header then s.header
    else s.size xs

-- the heading of such a format
abbrev pub heading_by : Sync → Heading
heading_by s = record {
  first = s.first;
  begins = begins_by s;
  wanted = wanted_by s;
  longest = s.longest;
  is_right = s.is_right;
}
