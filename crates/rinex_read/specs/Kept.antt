-- The lines stored of a record: the first eighteen, of each the first 80 characters,
-- filled with blanks.
use Rattle.std.specs.Prelude.{ℕ, nat_lt, if◌then◌else◌, List, [], ◌∷◌, ◌++◌, length}
use Rattle.rinex_read.specs.Lines.{columns}

-- the first 80 characters of a line, filled with blanks
abbrev pub padded : List ℕ → List ℕ
padded line = columns 0 80 line

-- the kept lines after one more
abbrev pub kept_with : List (List ℕ) → List ℕ → List (List ℕ)
kept_with kept line = if nat_lt (length kept) 18 then kept ++ padded line ∷ [] else kept
