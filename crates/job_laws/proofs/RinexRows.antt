-- The columns of a table say the fields that the reader takes of its lines.
use Rattle.std.proofs.Common.{◌≡◌, ℕ, zero, suc, ◌+◌, ◌*◌, ◌≤◌, ◌==◌, ◌&&◌, nat_le, Bool, true, false, if◌then◌else◌, List, [], ◌∷◌, ◌++◌, length, take, drop, get_or, slice_get, Some, Ok, refl, ap, sym, ◌∙◌, subst, arith, ℤ, pos, negsuc, inl, int_le, ne_eqb, length-append, length-drop}
use Rattle.std.proofs.lemmas.Bool.{and_parts, leb-true}
use Rattle.scaled_decimal.specs.ScaleValue.{size_of, AreWithin, IsScale}
use Rattle.scaled_decimal.specs.declared.scales.Scale.{Scale}
use Rattle.scaled_decimal.proofs.Surface.{is_scale}
use Rattle.rinex_write.specs.declared.columns.Rule.{Rule}
use Rattle.rinex_write.specs.declared.columns.Rule.TheVariants.{Plain, OrZero, OrLeast, OrUnknown, Ura, Sisa, Fit, Sent, Unread}
use Rattle.rinex_write.specs.declared.columns.Column.{Column}
use Rattle.rinex_write.specs.Columns.{AreFields, joined_rows, is_near_scale}
use Rattle.rinex_read.specs.Lines.{columns}
use Rattle.rinex_read.specs.Fields.{◌>>=◌, field_at, read_row, read_rows}
use Rattle.job_laws.specs.RinexRecords.{Encodes, Has, HasFields}
use Rattle.job_laws.proofs.RinexTexts.{bound, go_on}
use Rattle.job_laws.proofs.RinexFields.{Seen, HasBlank, le_from, field-says, says-read, says-field}

-- from offset a on each column says its field
abbrev pub RowSays : List Column → ℕ → List ℕ → List ℤ → Type 0
RowSays [] a line [] = Unit {0}
RowSays [] a line (z ∷ zs) = ⊥
RowSays (c ∷ cs) a line [] = ⊥
RowSays (c ∷ cs) a line (z ∷ zs) = Encodes c.rule (size_of c.scale) (columns a 19 line) z × RowSays cs (a + 19) line zs

abbrev pub RowsSay : List (List Column) → ℕ → List (List ℕ) → List (List ℤ) → Type 0
RowsSay [] a lines [] = Unit {0}
RowsSay [] a lines (zs ∷ rest) = ⊥
RowsSay (r ∷ rs) a lines [] = ⊥
RowsSay (r ∷ rs) a [] (zs ∷ rest) = ⊥
RowsSay (r ∷ rs) a (l ∷ ls) (zs ∷ rest) = RowSays r a l zs × RowsSay rs 4 ls rest

-- fields in rows of these lengths
abbrev pub split : List (List Column) → List ℤ → List (List ℤ)
split [] zs = []
split (r ∷ rs) zs = take (length r) zs ∷ split rs (drop (length r) zs)

-- the scales of columns are usual ones, and a blank is in range where it is a number
abbrev pub AreUsual : List Column → Type 0
AreUsual [] = Unit {0}
AreUsual (c ∷ cs) = (is_near_scale c.scale ≡ true) × HasBlank c.rule × AreUsual cs

abbrev pub AllUsual : List (List Column) → Type 0
AllUsual [] = Unit {0}
AllUsual (r ∷ rs) = AreUsual r × AllUsual rs

-- the same as a test
abbrev pub has_blank : Rule → Bool
has_blank (OrZero low high) = int_le low (pos 0) && int_le (pos 0) high
has_blank (OrLeast low high) = int_le low high
has_blank r = true

abbrev pub are_usual : List Column → Bool
are_usual [] = true
are_usual (c ∷ cs) = is_near_scale c.scale && has_blank c.rule && are_usual cs

abbrev pub all_usual : List (List Column) → Bool
all_usual [] = true
all_usual (r ∷ rs) = are_usual r && all_usual rs

blank_by : (r : Rule) → has_blank r ≡ true → HasBlank r
blank_by (Plain low high) h = tt
blank_by (OrZero low high) h =
    let both = and_parts (int_le low (pos 0)) (int_le (pos 0) high) h in
    (le_from low (pos 0) both.0, le_from (pos 0) high both.1)
blank_by (OrLeast low high) h = le_from low high h
blank_by (OrUnknown low high) h = tt
blank_by Ura h = tt
blank_by Sisa h = tt
blank_by Fit h = tt
blank_by Sent h = tt
blank_by (Unread n) h = tt

usual_by : (cs : List Column) → are_usual cs ≡ true → AreUsual cs
usual_by [] h = tt
usual_by (c ∷ cs) h =
    let parts = and_parts (is_near_scale c.scale && has_blank c.rule) (are_usual cs) h in
    let own = and_parts (is_near_scale c.scale) (has_blank c.rule) parts.0 in
    (own.0, blank_by c.rule own.1, usual_by cs parts.1)

pub all_usual_by : (rows : List (List Column)) → all_usual rows ≡ true → AllUsual rows
all_usual_by [] h = tt
all_usual_by (r ∷ rs) h = let parts = and_parts (are_usual r) (all_usual rs) h in (usual_by r parts.0, all_usual_by rs parts.1)

near_within : (s : Scale) → is_near_scale s ≡ true → AreWithin s.factor s.two s.ten
near_within s good =
    let a = nat_le 1 s.factor in
    let b = nat_le s.factor 60 in
    let c = int_le (negsuc 58) s.two in
    let d = int_le s.two (pos 16) in
    let e = int_le (negsuc 1) s.ten in
    let f = int_le s.ten (pos 0) in
    let p5 = and_parts (a && b && c && d && e) f good in
    let p4 = and_parts (a && b && c && d) e p5.0 in
    let p3 = and_parts (a && b && c) d p4.0 in
    let p2 = and_parts (a && b) c p3.0 in
    let p1 = and_parts a b p2.0 in (
      leb-true 1 s.factor p1.0,
      leb-true s.factor 60 p1.1,
      le_from (negsuc 58) s.two p2.1,
      le_from s.two (pos 16) p3.1,
      le_from (negsuc 1) s.ten p4.1,
      le_from s.ten (pos 0) p5.1,
    )

near_scale : (s : Scale) → is_near_scale s ≡ true → IsScale (size_of s)
near_scale s good = is_scale s (inl (near_within s good))

row-says : Seen → (cs : List Column) (a : ℕ) (line : List ℕ) (zs : List ℤ) → AreUsual cs → read_row cs a line ≡ Ok zs → RowSays cs a line zs × AreFields cs zs
row-says laws [] a line zs usual h = let is : [] ≡ zs = cc in subst (λ ws. RowSays [] a line ws × AreFields [] ws) is (tt, tt)
row-says laws (c ∷ cs) a line zs usual h =
    let first = bound (field_at c a line) (λ z. read_row cs (a + 19) line >>= λ ws. Ok (z ∷ ws)) zs h in
    let rest = bound (read_row cs (a + 19) line) (λ ws. Ok (first.value ∷ ws)) zs first.rest in
    let is : first.value ∷ rest.value ≡ zs = cc in
    let own = field-says laws c.rule (size_of c.scale) (columns a 19 line) first.value (near_scale c.scale usual.0) first.is in
    let others = row-says laws cs (a + 19) line rest.value usual.2 rest.is in
    subst (λ ws. RowSays (c ∷ cs) a line ws × AreFields (c ∷ cs) ws) is
    ((own, others.0), (says-field c.rule (size_of c.scale) (columns a 19 line) first.value usual.1 own, others.1))

row-read : Seen → (cs : List Column) (a : ℕ) (line : List ℕ) (zs : List ℤ) → AreUsual cs → RowSays cs a line zs → read_row cs a line ≡ Ok zs
row-read laws [] a line [] usual h = refl
row-read laws [] a line (z ∷ zs) usual h = absurd h
row-read laws (c ∷ cs) a line [] usual h = absurd h
row-read laws (c ∷ cs) a line (z ∷ zs) usual h =
    let own = says-read laws c.rule (size_of c.scale) (columns a 19 line) z (near_scale c.scale usual.0) h.0 in
    let others = row-read laws cs (a + 19) line zs usual.2 h.1 in
    go_on (field_at c a line) z (λ y. read_row cs (a + 19) line >>= λ ws. Ok (y ∷ ws)) own
    ∙ go_on (read_row cs (a + 19) line) zs (λ ws. Ok (z ∷ ws)) others

same_length : (cs : List Column) (zs : List ℤ) → AreFields cs zs → length zs ≡ length cs
same_length [] [] h = refl
same_length [] (z ∷ zs) h = absurd h
same_length (c ∷ cs) [] h = absurd h
same_length (c ∷ cs) (z ∷ zs) h = ap suc (same_length cs zs h.1)

taken_prefix : (xs ys : List ℤ) (n : ℕ) → length xs ≡ n → take n (xs ++ ys) ≡ xs
taken_prefix [] ys zero e = refl
taken_prefix [] ys (suc n) e = absurd (omega arith)
taken_prefix (x ∷ xs) ys zero e = absurd (omega arith)
taken_prefix (x ∷ xs) ys (suc n) e = ap (λ l. x ∷ l) (taken_prefix xs ys n (omega arith))

dropped_prefix : (xs ys : List ℤ) (n : ℕ) → length xs ≡ n → drop n (xs ++ ys) ≡ ys
dropped_prefix [] ys zero e = refl
dropped_prefix [] ys (suc n) e = absurd (omega arith)
dropped_prefix (x ∷ xs) ys zero e = absurd (omega arith)
dropped_prefix (x ∷ xs) ys (suc n) e = dropped_prefix xs ys n (omega arith)

fields_joined : (cs ds : List Column) (zs ws : List ℤ) → AreFields cs zs → AreFields ds ws → AreFields (cs ++ ds) (zs ++ ws)
fields_joined [] ds [] ws h k = k
fields_joined [] ds (z ∷ zs) ws h k = absurd h
fields_joined (c ∷ cs) ds [] ws h k = absurd h
fields_joined (c ∷ cs) ds (z ∷ zs) ws h k = (h.0, fields_joined cs ds zs ws h.1 k)

pub rows-say : Seen → (rows : List (List Column)) (a : ℕ) (lines : List (List ℕ)) (zs : List ℤ) → AllUsual rows → read_rows rows a lines ≡ Ok zs
    → RowsSay rows a lines (split rows zs) × AreFields (joined_rows rows) zs
rows-say laws [] a lines zs usual h = let is : [] ≡ zs = cc in (tt, subst (AreFields []) is tt)
rows-say laws (r ∷ rs) a [] zs usual h = absurd (cc)
rows-say laws (r ∷ rs) a (l ∷ ls) zs usual h =
    let first = bound (read_row r a l) (λ xs. read_rows rs 4 ls >>= λ ws. Ok (xs ++ ws)) zs h in
    let rest = bound (read_rows rs 4 ls) (λ ws. Ok (first.value ++ ws)) zs first.rest in
    let is : first.value ++ rest.value ≡ zs = cc in
    let own = row-says laws r a l first.value usual.0 first.is in
    let others = rows-say laws rs 4 ls rest.value usual.1 rest.is in
    let size = same_length r first.value own.1 in
    let before = sym (taken_prefix first.value rest.value (length r) size) in
    let behind = sym (dropped_prefix first.value rest.value (length r) size) in
    subst (λ ws. RowsSay (r ∷ rs) a (l ∷ ls) (split (r ∷ rs) ws) × AreFields (joined_rows (r ∷ rs)) ws) is
    ((subst (RowSays r a l) before own.0, subst (λ ws. RowsSay rs 4 ls (split rs ws)) behind others.0), fields_joined r (joined_rows rs) first.value rest.value own.1 others.1)

prefix_and_rest : (n : ℕ) (zs : List ℤ) → take n zs ++ drop n zs ≡ zs
prefix_and_rest zero zs = refl
prefix_and_rest (suc n) [] = refl
prefix_and_rest (suc n) (z ∷ zs) = ap (λ l. z ∷ l) (prefix_and_rest n zs)

pub rows-read : Seen → (rows : List (List Column)) (a : ℕ) (lines : List (List ℕ)) (zs : List ℤ) → AllUsual rows → length zs ≡ length (joined_rows rows)
    → RowsSay rows a lines (split rows zs) → read_rows rows a lines ≡ Ok zs
rows-read laws [] a lines [] usual size h = refl
rows-read laws [] a lines (z ∷ zs) usual size h = absurd (omega arith)
rows-read laws (r ∷ rs) a [] zs usual size h = absurd h
rows-read laws (r ∷ rs) a (l ∷ ls) zs usual size h =
    let own = row-read laws r a l (take (length r) zs) usual.0 h.0 in
    let less : length (drop (length r) zs) ≡ length (joined_rows rs) = omega (arith, length-drop (length r) zs, length-append r (joined_rows rs), size) in
    let others = rows-read laws rs 4 ls (drop (length r) zs) usual.1 less h.1 in
    go_on (read_row r a l) (take (length r) zs) (λ xs. read_rows rs 4 ls >>= λ ws. Ok (xs ++ ws)) own
    ∙ go_on (read_rows rs 4 ls) (drop (length r) zs) (λ ws. Ok (take (length r) zs ++ ws)) others
    ∙ ap Ok (prefix_and_rest (length r) zs)

-- each column by its place
row-places : (cs : List Column) (a : ℕ) (line : List ℕ) (zs : List ℤ) → RowSays cs a line zs → (j : ℕ) (c : Column) (z : ℤ) → slice_get cs j ≡ Some c → slice_get zs j ≡ Some z
    → Encodes c.rule (size_of c.scale) (columns (a + 19 * j) 19 line) z
row-places [] a line zs h j c z p q = absurd (cc)
row-places (d ∷ cs) a line [] h j c z p q = absurd (cc)
row-places (d ∷ cs) a line (y ∷ zs) h zero c z p q =
    let column : d ≡ c = cc in
    let field : y ≡ z = cc in
    let at : a ≡ a + 19 * 0 = omega arith in
    subst (λ i. Encodes c.rule (size_of c.scale) (columns i 19 line) z) at
    (subst (λ (x : Column). Encodes x.rule (size_of x.scale) (columns a 19 line) z) column (subst (Encodes d.rule (size_of d.scale) (columns a 19 line)) field h.0))
row-places (d ∷ cs) a line (y ∷ zs) h (suc j) c z p q =
    let at : a + 19 + 19 * j ≡ a + 19 * suc j = omega arith in
    subst (λ i. Encodes c.rule (size_of c.scale) (columns i 19 line) z) at (row-places cs (a + 19) line zs h.1 j c z p q)

four : (i : ℕ) → ◌≡◌ {A = ℕ} (if i == 0 then 4 else 4) 4
four i = go (i == 0)
  where
    go : (b : Bool) → ◌≡◌ {A = ℕ} (if b then 4 else 4) 4
    go true = refl
    go false = refl

other : (i a : ℕ) → ◌≡◌ {A = ℕ} (if suc i == 0 then a else 4) 4
other i a = ap (λ b. if b then a else 4) (ne_eqb (suc i) 0 (λ e. omega arith))

rows-places : (rows : List (List Column)) (a : ℕ) (lines : List (List ℕ)) (fields : List (List ℤ)) → RowsSay rows a lines fields
    → (i j : ℕ) (c : Column) (z : ℤ) → Has rows i j c → Has fields i j z → Encodes c.rule (size_of c.scale) (columns ((if i == 0 then a else 4) + 19 * j) 19 (get_or lines i [])) z
rows-places [] a lines fields h i j c z p q = absurd (cc)
rows-places (r ∷ rs) a lines [] h i j c z p q = absurd (cc)
rows-places (r ∷ rs) a [] (zs ∷ rest) h i j c z p q = absurd h
rows-places (r ∷ rs) a (l ∷ ls) (zs ∷ rest) h zero j c z p q = row-places r a l zs h.0 j c z p q
rows-places (r ∷ rs) a (l ∷ ls) (zs ∷ rest) h (suc i) j c z p q =
    subst (λ k. Encodes c.rule (size_of c.scale) (columns (k + 19 * j) 19 (get_or ls i [])) z) (four i ∙ sym (other i a)) (rows-places rs 4 ls rest h.1 i j c z p q)

enough_lines : (rows : List (List Column)) (a : ℕ) (lines : List (List ℕ)) (fields : List (List ℤ)) → RowsSay rows a lines fields → length rows ≤ length lines
enough_lines [] a lines fields h = omega arith
enough_lines (r ∷ rs) a lines [] h = absurd h
enough_lines (r ∷ rs) a [] (zs ∷ rest) h = absurd h
enough_lines (r ∷ rs) a (l ∷ ls) (zs ∷ rest) h = omega (arith, enough_lines rs 4 ls rest h.1)

pub say-by : (rows : List (List Column)) (lines : List (List ℕ)) (fields : List (List ℤ)) → RowsSay rows 23 lines fields → HasFields rows lines fields
say-by rows lines fields h = record { enough = enough_lines rows 23 lines fields h; each = rows-places rows 23 lines fields h }

-- the rows of fields are as long as those of the columns
abbrev pub AreShaped : List (List Column) → List (List ℤ) → Type 0
AreShaped [] [] = Unit {0}
AreShaped [] (zs ∷ rest) = ⊥
AreShaped (r ∷ rs) [] = ⊥
AreShaped (r ∷ rs) (zs ∷ rest) = (length zs ≡ length r) × AreShaped rs rest

row-by : (cs : List Column) (a : ℕ) (line : List ℕ) (zs : List ℤ) → length zs ≡ length cs
    → ((j : ℕ) (c : Column) (z : ℤ) → slice_get cs j ≡ Some c → slice_get zs j ≡ Some z → Encodes c.rule (size_of c.scale) (columns (a + 19 * j) 19 line) z) → RowSays cs a line zs
row-by [] a line [] size h = tt
row-by [] a line (z ∷ zs) size h = absurd (omega arith)
row-by (c ∷ cs) a line [] size h = absurd (omega arith)
row-by (c ∷ cs) a line (z ∷ zs) size h =
    let at : a + 19 * 0 ≡ a = omega arith in (
      subst (λ i. Encodes c.rule (size_of c.scale) (columns i 19 line) z) at (h 0 c z refl refl),
      row-by cs (a + 19) line zs (omega arith) (λ j d y p q.
          let next : a + 19 * suc j ≡ a + 19 + 19 * j = omega arith in
          subst (λ i. Encodes d.rule (size_of d.scale) (columns i 19 line) y) next (h (suc j) d y p q)),
    )

rows-by : (rows : List (List Column)) (a : ℕ) (lines : List (List ℕ)) (fields : List (List ℤ)) → AreShaped rows fields → length rows ≤ length lines
    → ((i j : ℕ) (c : Column) (z : ℤ) → Has rows i j c → Has fields i j z → Encodes c.rule (size_of c.scale) (columns ((if i == 0 then a else 4) + 19 * j) 19 (get_or lines i [])) z)
    → RowsSay rows a lines fields
rows-by [] a lines [] fit enough h = tt
rows-by [] a lines (zs ∷ rest) fit enough h = absurd fit
rows-by (r ∷ rs) a lines [] fit enough h = absurd fit
rows-by (r ∷ rs) a [] (zs ∷ rest) fit enough h = absurd (omega arith)
rows-by (r ∷ rs) a (l ∷ ls) (zs ∷ rest) fit enough h = (
  row-by r a l zs fit.0 (h 0),
  rows-by rs 4 ls rest fit.1 (omega arith) (λ i j c z p q.
      subst (λ k. Encodes c.rule (size_of c.scale) (columns (k + 19 * j) 19 (get_or ls i [])) z) (other i a ∙ sym (four i)) (h (suc i) j c z p q)),
)

pub by-say : (rows : List (List Column)) (lines : List (List ℕ)) (fields : List (List ℤ)) → AreShaped rows fields → HasFields rows lines fields → RowsSay rows 23 lines fields
by-say rows lines fields fit h = rows-by rows 23 lines fields fit h.enough h.each
