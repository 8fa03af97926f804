-- Numbers in columns: which number is written for a field, and the lines of a table of columns.
use Rattle.std.specs.Prelude.{◌≡◌, ℕ, ◌⊎◌, ◌&&◌, ◌||◌, not, nat_le, Bool, true, false, if◌then◌else◌, replicate, List, [], ◌∷◌, ◌++◌, length, drop, codes, ℤ, pos, negsuc, ◌≤ℤ◌, int_le, int_lt, unsigned_abs, get_or}
use Rattle.scaled_decimal.specs.declared.scales.Scale.{Scale}
use Rattle.scaled_decimal.specs.ScaleValue.{size_of}
use Rattle.scaled_decimal.specs.NumberText.{number_text}
use Rattle.rinex_write.specs.declared.columns.Rule.{Rule}
use Rattle.rinex_write.specs.declared.columns.Rule.TheVariants.{Plain, OrZero, OrLeast, OrUnknown, Ura, Sisa, Fit, Sent, Unread}
use Rattle.rinex_write.specs.declared.columns.Column.{Column}
use Rattle.rinex_write.specs.Accuracies.{ura_nominal, sisa_nominal, fit_hours}

-- a number that is not known, as an integer of its column
abbrev pub not_known : ℤ
not_known = pos 999999999

-- the number that is written for a field
abbrev pub shown : Rule → ℤ → ℤ
shown (Plain low high) z = z
shown (OrZero low high) z = z
shown (OrLeast low high) z = z
shown (OrUnknown low high) z = z
shown Ura z = pos (get_or ura_nominal (unsigned_abs z) 0)
shown Sisa z = sisa_nominal (unsigned_abs z)
shown Fit z = pos (fit_hours (unsigned_abs z))
shown Sent z = z
shown (Unread n) z = n

-- the range of a field by its rule
abbrev pub IsField : Rule → ℤ → Type 0
IsField (Plain low high) z = (low ≤ℤ z) × (z ≤ℤ high)
IsField (OrZero low high) z = (low ≤ℤ z) × (z ≤ℤ high)
IsField (OrLeast low high) z = (low ≤ℤ z) × (z ≤ℤ high)
IsField (OrUnknown low high) z = ((low ≤ℤ z) × (z ≤ℤ high)) ⊎ (z ≡ not_known)
IsField Ura z = (pos 0 ≤ℤ z) × (z ≤ℤ pos 15)
IsField Sisa z = ((pos 0 ≤ℤ z) × (z ≤ℤ pos 125)) ⊎ (z ≡ pos 255)
IsField Fit z = (pos 0 ≤ℤ z) × (z ≤ℤ pos 1)
IsField Sent z = ((negsuc 302399 ≤ℤ z) × (z ≤ℤ pos 907199)) ⊎ (z ≡ pos 999900000)
IsField (Unread n) z = z ≡ n

-- there are as many fields as columns, each in its column's range
abbrev pub AreFields : List Column → List ℤ → Type 0
AreFields [] [] = Unit {0}
AreFields [] (z ∷ zs) = ⊥
AreFields (c ∷ cs) [] = ⊥
AreFields (c ∷ cs) (z ∷ zs) = IsField c.rule z × AreFields cs zs

-- whether a column is left blank for a field
abbrev pub is_blank : Rule → ℤ → Bool
is_blank (OrLeast low high) z = int_le z low
is_blank rule z = false

-- a blank column
abbrev pub blanks : List ℕ
blanks = replicate 19 32

-- whether a field is a number that is not known
abbrev pub is_unknown : Rule → ℤ → Bool
is_unknown (OrUnknown low high) z = int_le not_known z
is_unknown rule z = false

-- the text of a number that is not known
abbrev pub unknown_text : List ℕ
unknown_text = codes " 9.999999999990D+08"

-- the text of a field
abbrev pub column_text : Column → ℤ → List ℕ
column_text c z =
    if is_blank c.rule z then blanks
    else if is_unknown c.rule z then unknown_text
    else number_text (size_of c.scale) (shown c.rule z)

-- the texts of a row of fields, concatenated
abbrev pub row_text : List Column → List ℤ → List ℕ
row_text [] zs = []
row_text (c ∷ cs) [] = []
row_text (c ∷ cs) (z ∷ zs) = column_text c z ++ row_text cs zs

-- the lines of a table of fields: the first begins with start, each other with four blanks
abbrev pub row_lines : List ℕ → List (List Column) → List ℤ → List (List ℕ)
row_lines start [] zs = []
row_lines start (r ∷ rs) zs = (start ++ row_text r zs) ∷ row_lines (codes "    ") rs (drop (length r) zs)

-- the columns of all rows
abbrev pub joined_rows : List (List Column) → List Column
joined_rows [] = []
joined_rows (r ∷ rs) = r ++ joined_rows rs

abbrev pub is_near_scale : Scale → Bool
is_near_scale s =
    nat_le 1 s.factor && nat_le s.factor 60 && int_le (negsuc 58) s.two && int_le s.two (pos 16)
    && int_le (negsuc 1) s.ten && int_le s.ten (pos 0)

abbrev pub is_far_scale : Scale → Bool
is_far_scale s =
    not s.pi && nat_le 1 s.factor && nat_le s.factor 1000
    && ((int_le (negsuc 65) s.two && int_le s.two (negsuc 59) && int_le (pos 0) s.ten && int_le s.ten (pos 0))
    || (int_le (pos 0) s.two && int_le s.two (pos 0) && int_le (negsuc 9) s.ten && int_le s.ten (pos 0)))

-- each number of this scale can be written and read back
abbrev pub is_good_scale : Scale → Bool
is_good_scale s = is_near_scale s || is_far_scale s

-- the range has numbers of at most 32 bits and a sign
abbrev pub is_good_range : ℤ → ℤ → Bool
is_good_range low high = int_le (negsuc 4294967294) low && int_le high (pos 4294967295)

-- the unit is at most 1, and the range ends before 999,999,999
abbrev pub is_below_unknown : Scale → ℤ → Bool
is_below_unknown s high = nat_le (size_of s).over (size_of s).under && int_lt high not_known

abbrev pub is_good_rule : Scale → Rule → Bool
is_good_rule s (Plain low high) = is_good_range low high
is_good_rule s (OrZero low high) = is_good_range low high
is_good_rule s (OrLeast low high) = is_good_range low high
is_good_rule s (OrUnknown low high) = is_good_range low high && is_below_unknown s high
is_good_rule s Ura = true
is_good_rule s Sisa = true
is_good_rule s Fit = true
is_good_rule s Sent = true
is_good_rule s (Unread n) = is_good_range n n

-- each number of these columns can be written and read back
abbrev pub are_good : List Column → Bool
are_good [] = true
are_good (c ∷ cs) = is_good_scale c.scale && is_good_rule c.scale c.rule && are_good cs
