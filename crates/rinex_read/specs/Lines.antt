-- Columns of lines. A shorter line counts as filled with blanks.
use Rattle.std.specs.Prelude.{ℕ, zero, suc, ◌+◌, ◌==◌, ◌&&◌, Bool, true, false, List, [], ◌∷◌, map, get_or}
use Rattle.nav_io.specs.Lines.{Line, pieces, without_cr, lines_by}

-- n characters of a line from offset a on, counted from 0
unfoldable pub columns : ℕ → ℕ → List ℕ → List ℕ
columns a zero line = []
columns a (suc n) line = get_or line a 32 ∷ columns (a + 1) n line

-- the text is at offset a of the line
unfoldable pub stands_at : ℕ → List ℕ → List ℕ → Bool
stands_at a [] line = true
stands_at a (c ∷ cs) line = (get_or line a 32 == c) && stands_at (a + 1) cs line

-- the lines of the bytes of a file
abbrev pub lines_of : List ℕ → List (List ℕ)
lines_of bytes = map without_cr (pieces false bytes)

-- the complete lines, if more bytes may come
abbrev pub ended_lines : List ℕ → List (List ℕ)
ended_lines bytes = map without_cr (pieces true bytes)

-- a line as the reader of lines gives it: its first 2,200 characters
abbrev pub text_of_line : Line → List ℕ
text_of_line line = line.text

abbrev pub lines_stated : List ℕ → List (List ℕ)
lines_stated bytes = map text_of_line (lines_by false bytes)
