-- Columns of lines, counted from 0.
use Rattle.std.specs.Prelude.{ℕ, ◌+◌, ◌-◌, ◌*◌, ◌==◌, ◌&&◌, ◌||◌, List, ◌++◌, length, min, take, drop, replicate, get_or, Option, Some, None, if◌then◌else◌}
use Rattle.scaled_decimal.specs.NumberReading.{is_decimal}

-- the first 80 characters of a line, filled with blanks
abbrev pub padded : List ℕ → List ℕ
padded line = take 80 line ++ drop (min 80 (length line)) (replicate 80 32)

-- n characters of a line from offset a on
abbrev pub part : ℕ → ℕ → List ℕ → List ℕ
part a n line = take n (drop a line)

-- the number of two characters, the first possibly blank
abbrev pub number_of : ℕ → ℕ → Option ℕ
number_of tens ones =
    if is_decimal ones && (tens == 32 || is_decimal tens) then Some ((if tens == 32 then 0 else 10 * (tens - 48)) + (ones - 48)) else None

-- the number at offset a of a line
unfoldable pub number_at : ℕ → List ℕ → Option ℕ
number_at a line = number_of (get_or line a 32) (get_or line (a + 1) 32)
