-- The lines of a carried record as they are written, each number with its exact text (RINEX 4.01, navigation records).
use Rattle.std.specs.Prelude.{ℕ, ◌+◌, if◌then◌else◌, Bool, true, false, List, [], ◌∷◌, ◌++◌, take, drop, Option, None, Some}
use Rattle.scaled_decimal.specs.NumberReading.{trim_end}
use Rattle.rinex_lines.specs.ExactText.{exact_text}

-- the line with this text in place of the 19 columns from offset a on
abbrev pub with_text : ℕ → Option (List ℕ) → List ℕ → List ℕ
with_text a None line = line
with_text a (Some text) line = take a line ++ (text ++ drop (a + 19) line)

-- the line with its 19 columns from offset a on as they are written: a number with an exact text has that text; blanks, other
-- texts and longer numbers stay as they are
abbrev pub with_field : ℕ → List ℕ → List ℕ
with_field a line = with_text a (exact_text (take 19 (drop a line))) line

-- a line after the title: four columns of 19, of which the first holds the date in the first line
unfoldable pub carried_line : Bool → List ℕ → List ℕ
carried_line first line =
    with_field 61 (with_field 42 (with_field 23 (if first then line else with_field 4 line)))

-- the text of a line: blanks at its end are not written, and a line feed is
abbrev pub line_text : List ℕ → List ℕ
line_text line = trim_end line ++ 10 ∷ []

-- the text of lines after the title, of which the next is the first or a later one
abbrev pub lines_text : Bool → List (List ℕ) → List ℕ
lines_text first [] = []
lines_text first (l ∷ ls) = line_text (carried_line first l) ++ lines_text false ls

-- the text of a record, from its title on
abbrev pub record_text : List (List ℕ) → List ℕ
record_text [] = []
record_text (title ∷ ls) = line_text title ++ lines_text true ls
