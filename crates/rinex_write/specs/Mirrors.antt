-- Invariants and helper definitions of private functions; no public clause cites them.
use Rattle.std.specs.Prelude.{◌≡◌, ℕ, ◌+◌, ◌*◌, ◌<◌, ◌≤◌, ◌++◌, List, [], ◌∷◌, length, sum, take, drop, codes, ℤ, pos, ◌≤ℤ◌, unsigned_abs}
use Rattle.scaled_decimal.specs.ScaleValue.{IsAccepted}
use Rattle.rinex_write.specs.declared.columns.Rule.{Rule}
use Rattle.rinex_write.specs.declared.columns.Rule.TheVariants.{Plain, OrZero, OrLeast, OrUnknown, Ura, Sisa, Fit, Sent, Unread}
use Rattle.rinex_write.specs.declared.columns.Column.{Column}
use Rattle.rinex_write.specs.Columns.{IsField, row_text}

-- a number that can be written
abbrev pub IsSmall : ℤ → Type 0
IsSmall z = unsigned_abs z ≤ 4294967295

-- a field whose number can be written
abbrev pub IsWritable : Rule → ℤ → Type 0
IsWritable (Plain low high) z = IsSmall z
IsWritable (OrZero low high) z = IsSmall z
IsWritable (OrLeast low high) z = IsSmall z
IsWritable (OrUnknown low high) z = IsSmall z
IsWritable Ura z = (pos 0 ≤ℤ z) × (z ≤ℤ pos 15)
IsWritable Sisa z = (pos 0 ≤ℤ z) × (z ≤ℤ pos 255)
IsWritable Fit z = (pos 0 ≤ℤ z) × (z ≤ℤ pos 1)
IsWritable Sent z = IsSmall z
IsWritable (Unread n) z = IsSmall n

-- a field whose text can be written
pub record IsReady (c : Column) (z : ℤ) : Type 0 where
  pub scale : IsAccepted c.scale
  pub field : IsWritable c.rule z

-- there is a field for each column, and its text can be written
abbrev pub AreReady : List Column → List ℤ → Type 0
AreReady [] zs = Unit {0}
AreReady (c ∷ cs) [] = ⊥
AreReady (c ∷ cs) (z ∷ zs) = IsReady c z × AreReady cs zs

-- the lines of rows with these numbers of columns, four blanks before each
abbrev pub rows_text : List ℕ → List Column → List ℤ → List ℕ
rows_text [] cs zs = []
rows_text (n ∷ ns) cs zs = codes "    " ++ (row_text (take n cs) zs ++ 10 ∷ rows_text ns (drop n cs) (drop n zs))

-- the text so far and that of the remaining columns are the complete text
pub record RowSoFar (whole now : List ℕ) (columns : List Column) (fields : List ℤ) : Type 0 where
  pub ready : AreReady columns fields
  pub text : now ++ row_text columns fields ≡ whole

-- the text so far and that of the remaining rows are the complete text
pub record RowsSoFar (whole now : List ℕ) (lengths : List ℕ) (columns : List Column) (fields : List ℤ) : Type 0 where
  pub count : sum lengths ≡ length columns
  pub ready : AreReady columns fields
  pub text : now ++ rows_text lengths columns fields ≡ whole

-- the range of a field by its rule, with P for the transmission time
abbrev pub IsKept : (ℤ → Type 0) → Rule → ℤ → Type 0
IsKept P (Plain low high) z = IsField (Plain low high) z
IsKept P (OrZero low high) z = IsField (OrZero low high) z
IsKept P (OrLeast low high) z = IsField (OrLeast low high) z
IsKept P (OrUnknown low high) z = IsField (OrUnknown low high) z
IsKept P Ura z = IsField Ura z
IsKept P Sisa z = IsField Sisa z
IsKept P Fit z = IsField Fit z
IsKept P Sent z = P z
IsKept P (Unread n) z = IsField (Unread n) z

abbrev pub AreKept : (ℤ → Type 0) → List Column → List ℤ → Type 0
AreKept P [] [] = Unit {0}
AreKept P [] (z ∷ zs) = ⊥
AreKept P (c ∷ cs) [] = ⊥
AreKept P (c ∷ cs) (z ∷ zs) = IsKept P c.rule z × AreKept P cs zs

-- a table with at least one row, whose text has room
pub record IsTable (lengths : List ℕ) (columns : List Column) : Type 0 where
  pub some : 0 < length lengths
  pub count : sum lengths ≡ length columns
  pub room : 5 * length lengths + 19 * length columns ≤ 600
