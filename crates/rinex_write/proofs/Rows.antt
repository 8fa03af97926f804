-- The texts of rows, column by column and row by row.
use Rattle.std.proofs.Common.{◌≡◌, ℕ, suc, ◌+◌, ◌<◌, ◌≤◌, List, [], ◌∷◌, ◌++◌, length, drop, get_or, ℤ, pos, arith, add-one, append_assoc, length-drop, drop-cons, ◌∙◌, subst, refl, Bool, true, false, if◌then◌else◌}
use Rattle.scaled_decimal.specs.ScaleValue.{size_of}
use Rattle.scaled_decimal.specs.NumberText.{number_text}
use Rattle.scaled_decimal.proofs.Surface.{length-number_text}
use Rattle.rinex_write.specs.declared.columns.Column.{Column}
use Rattle.rinex_write.specs.declared.columns.Rule.TheVariants.{Plain}
use Rattle.rinex_write.specs.Columns.{blanks, column_text, is_blank, is_unknown, row_text, shown, unknown_text}
use Rattle.rinex_write.specs.Mirrors.{IsReady, AreReady, RowSoFar}

length_by : (a b : Bool) (text : List ℕ) → length text ≡ 19 → length (if a then blanks else if b then unknown_text else text) ≡ 19
length_by true b text e = refl
length_by false true text e = refl
length_by false false text e = e

-- each column has 19 characters
pub length-column_text : (c : Column) (z : ℤ) → length (column_text c z) ≡ 19
length-column_text c z = length_by (is_blank c.rule z) (is_unknown c.rule z) (number_text (size_of c.scale) (shown c.rule z)) (length-number_text (size_of c.scale) (shown c.rule z))

-- there are at least as many fields as columns
pub enough_fields : (cs : List Column) (zs : List ℤ) → AreReady cs zs → length cs ≤ length zs
enough_fields [] zs a = omega arith
enough_fields (c ∷ cs) [] a = absurd a
enough_fields (c ∷ cs) (z ∷ zs) a = omega (arith, enough_fields cs zs a.1)

-- where a column is left, a field is
pub field_left : (cs : List Column) (zs : List ℤ) (i : ℕ) → AreReady (drop i cs) (drop i zs) → i < length cs → i < length zs
field_left cs zs i a h = omega (arith, enough_fields (drop i cs) (drop i zs) a, length-drop i cs, length-drop i zs)

row_head : (whole now : List ℕ) (c : Column) (cs : List Column) (z : ℤ) (zs : List ℤ) → RowSoFar whole now (c ∷ cs) (z ∷ zs)
    → IsReady c z × RowSoFar whole (now ++ column_text c z) cs zs
row_head whole now c cs z zs r = (r.ready.0, record { ready = r.ready.1; text = append_assoc now (column_text c z) (row_text cs zs) ∙ r.text })

-- after the next column is written the others are left
pub row_next : (whole now : List ℕ) (cs : List Column) (zs : List ℤ) (i : ℕ) (d : Column) → RowSoFar whole now (drop i cs) (drop i zs) → i < length cs
    → IsReady (get_or cs i d) (get_or zs i (pos 0))
    × RowSoFar whole (now ++ column_text (get_or cs i d) (get_or zs i (pos 0))) (drop (i + 1) cs) (drop (i + 1) zs)
row_next whole now cs zs i d r h =
    let k : i < length zs = field_left cs zs i r.ready h in
    let e : drop i cs ≡ get_or cs i d ∷ drop (suc i) cs = drop-cons cs i d h in
    let f : drop i zs ≡ get_or zs i (pos 0) ∷ drop (suc i) zs = drop-cons zs i (pos 0) k in
    let s : RowSoFar whole now (get_or cs i d ∷ drop (suc i) cs) (get_or zs i (pos 0) ∷ drop (suc i) zs) =
    subst (λ b. RowSoFar whole now (get_or cs i d ∷ drop (suc i) cs) b) f (subst (λ a. RowSoFar whole now a (drop i zs)) e r) in
    rw add-one (row_head whole now (get_or cs i d) (drop (suc i) cs) (get_or zs i (pos 0)) (drop (suc i) zs) s)

-- the default column, read past the end of a list
abbrev pub no_column : Column
no_column = record { scale = record { pi = false; factor = 0; two = pos 0; ten = pos 0 }; rule = Plain (pos 0) (pos 0) }

-- the same where what was appended is known by equations
pub row_after : (whole now new text : List ℕ) (cs : List Column) (zs : List ℤ) (i : ℕ)
    → RowSoFar whole now (drop i cs) (drop i zs) → i < length cs → new ≡ now ++ text
    → text ≡ column_text (get_or cs i no_column) (get_or zs i (pos 0)) → RowSoFar whole new (drop (i + 1) cs) (drop (i + 1) zs)
row_after whole now new text cs zs i r h e f =
    let g : now ++ column_text (get_or cs i no_column) (get_or zs i (pos 0)) ≡ new = cc in
    subst (λ n. RowSoFar whole n (drop (i + 1) cs) (drop (i + 1) zs)) g (row_next whole now cs zs i no_column r h).1
