-- A line that was written is read back unchanged.
use Rattle.std.proofs.Common.{◌≡◌, ◌++◌, ℕ, Bool, false, List, ◌∷◌, length, map, refl, ap, ◌∙◌}
use Rattle.std.proofs.lemmas.List.{take_all}
use Rattle.std.proofs.lemmas.Bool.{le-ltb}
use Rattle.nav_io.specs.Lines.{Line, IsOneLine, pieces, line_of, lines_by}
use Rattle.nav_io.proofs.LineLaws.{pieces-line}

line_of-one : (line : List ℕ) → IsOneLine line → line_of line ≡ record { text = line; long = false }
unfolding line_of
line_of-one line is = rw (is.last, take_all 2200 line is.short, le-ltb 2200 (length line) is.short) refl

pub line_given : (more : Bool) (line rest : List ℕ) → IsOneLine line → lines_by more (line ++ 10 ∷ rest) ≡ record { text = line; long = false } ∷ lines_by more rest
line_given more line rest is =
    ap (map line_of) (pieces-line more line rest is.none) ∙ ap (λ (l : Line). l ∷ lines_by more rest) (line_of-one line is)
