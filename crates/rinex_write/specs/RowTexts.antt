-- The record of a row: a kind of any system, a satellite, a GPS time, and a number for each column.
use Rattle.std.specs.Prelude.{ℕ, List, [], ◌∷◌, ◌++◌, codes, take, drop, ℤ}
use Rattle.scaled_decimal.specs.NumberText.{digits}
use Rattle.nav_eph.specs.Functions.{civil_to}
use Rattle.rinex_write.specs.declared.columns.Column.{Column}
use Rattle.rinex_write.specs.Columns.{row_lines}
use Rattle.rinex_write.specs.Texts.{date_text}

-- a kind of record: its record type, its message type, and its rows
pub record RowKind : Type 0 where
  pub class : List ℕ
  pub message : List ℕ
  pub rows : List (List Column)

-- a satellite in three columns: the letter of its system, and its number
abbrev pub row_satellite : ℕ → ℕ → List ℕ
row_satellite letter number = letter ∷ digits 2 number

abbrev pub row_title : RowKind → ℕ → ℕ → List ℕ
row_title k letter number = codes "> " ++ (k.class ++ 32 ∷ (row_satellite letter number ++ 32 ∷ k.message))

-- the lines of a row behind its title
abbrev pub row_body : List (List Column) → ℕ → ℕ → ℕ → List ℤ → List (List ℕ)
row_body rows letter number moment fields =
    row_lines ((row_satellite letter number ++ 32 ∷ []) ++ date_text (civil_to moment)) rows fields

-- the lines of a row
abbrev pub row_record : RowKind → ℕ → ℕ → ℕ → List ℤ → List (List ℕ)
row_record k letter number moment fields = row_title k letter number ∷ row_body k.rows letter number moment fields

-- a list of columns cut into rows of these lengths
abbrev pub split_rows : List ℕ → List Column → List (List Column)
split_rows [] columns = []
split_rows (n ∷ ns) columns = take n columns ∷ split_rows ns (drop n columns)
