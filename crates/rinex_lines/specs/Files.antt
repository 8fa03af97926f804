-- Navigation files of RINEX 2, and the files of RINEX 3 as which they are read, line by line.
use Rattle.std.specs.Prelude.{ℕ, ◌==◌, ◌&&◌, not, Bool, true, false, List, [], ◌∷◌, ◌++◌, map}
use Rattle.nav_io.specs.Lines.{pieces, without_cr}
use Rattle.nav_io.specs.Pieces.{with_ends}
use Rattle.rinex_lines.specs.Columns.{padded}
use Rattle.rinex_lines.specs.Lines.{after, lines_at}
use Rattle.rinex_lines.specs.declared.place.Place.{Place}
use Rattle.rinex_lines.specs.declared.place.Place.TheVariants.{First}

-- the bytes end without a line end
abbrev pub is_open : List ℕ → Bool
is_open [] = false
is_open (x ∷ []) = not (x == 10)
is_open (x ∷ y ∷ ys) = is_open (y ∷ ys)

abbrev pub is_none : List (List ℕ) → Bool
is_none [] = true
is_none (line ∷ lines) = false

-- the lines as which lines are read, of which the first is at this place; behind the last there is no line end, or one
abbrev pub lines_from : Bool → Place → List (List ℕ) → List (List ℕ)
lines_from unended place [] = []
lines_from unended place (line ∷ lines) =
    lines_at (is_none lines && unended) place (padded line) ++ lines_from unended (after place (padded line)) lines

-- the text as which bytes are read that begin at this place
abbrev pub text_from : Place → List ℕ → List ℕ
text_from place bytes = with_ends (lines_from (is_open bytes) place (map without_cr (pieces false bytes)))

-- the file of RINEX 3 as which the bytes of a file of RINEX 2 are read
abbrev pub rinex3_of : List ℕ → List ℕ
rinex3_of bytes = text_from First bytes
