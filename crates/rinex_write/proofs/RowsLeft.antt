-- The texts of rows of columns, row by row.
use Rattle.std.proofs.Common.{◌≡◌, ℕ, zero, suc, ◌+◌, ◌-◌, ◌<◌, ◌≤◌, List, [], ◌∷◌, ◌++◌, length, map, take, drop, sum, get_or, codes, ℤ, arith, add-one, append_assoc, length-drop, drop-cons, ◌∙◌, sym, subst, refl, ap}
use Rattle.std.proofs.lemmas.List.Sums.{sum_by-cons}
use Rattle.std.proofs.Math.Seq.{take-append_seam, take-length, drop-append_seam}
use Rattle.rinex_write.specs.declared.columns.Column.{Column}
use Rattle.rinex_write.specs.Columns.{row_text, row_lines, joined_rows}
use Rattle.rinex_write.specs.Texts.{text_of}
use Rattle.rinex_write.specs.Mirrors.{AreReady, RowsSoFar, rows_text}
use Rattle.rinex_write.proofs.Rows.{enough_fields}

sum_more : (n : ℕ) (ns : List ℕ) → sum (n ∷ ns) ≡ n + sum ns
sum_more n ns = sum_by-cons (λ x. x) n ns

pub ready_take : (n : ℕ) (cs : List Column) (zs : List ℤ) → AreReady cs zs → AreReady (take n cs) zs
ready_take zero cs zs a = tt
ready_take (suc n) [] zs a = tt
ready_take (suc n) (c ∷ cs) [] a = a
ready_take (suc n) (c ∷ cs) (z ∷ zs) a = (a.0, ready_take n cs zs a.1)

pub ready_drop : (n : ℕ) (cs : List Column) (zs : List ℤ) → AreReady cs zs → AreReady (drop n cs) (drop n zs)
ready_drop zero cs zs a = a
ready_drop (suc n) [] zs a = tt
ready_drop (suc n) (c ∷ cs) [] a = absurd a
ready_drop (suc n) (c ∷ cs) (z ∷ zs) a = ready_drop n cs zs a.1

-- the next row has at most as many columns and fields as are left
pub row_fits : (whole now : List ℕ) (ns : List ℕ) (cs : List Column) (zs : List ℤ) (i : ℕ) → RowsSoFar whole now (drop i ns) cs zs → i < length ns
    → (get_or ns i 0 ≤ length cs) × (get_or ns i 0 ≤ length zs)
row_fits whole now ns cs zs i r h =
    let e : drop i ns ≡ get_or ns i 0 ∷ drop (suc i) ns = drop-cons ns i 0 h in
    let f : sum (get_or ns i 0 ∷ drop (suc i) ns) ≡ length cs = sym (ap sum e) ∙ r.count in
    let m : get_or ns i 0 ≤ length cs = omega (arith, f, sum_more (get_or ns i 0) (drop (suc i) ns)) in
    (m, omega (arith, m, enough_fields cs zs r.ready))

rows_head : (whole now : List ℕ) (n : ℕ) (ns : List ℕ) (cs : List Column) (zs : List ℤ) → RowsSoFar whole now (n ∷ ns) cs zs
    → RowsSoFar whole (((now ++ codes "    ") ++ row_text (take n cs) zs) ++ 10 ∷ []) ns (drop n cs) (drop n zs)
rows_head whole now n ns cs zs r = record {
  count = omega (arith, sum_more n ns, r.count, length-drop n cs);
  ready = ready_drop n cs zs r.ready;
  text = simp append_assoc r.text;
}

-- after the next row is written the others are left
pub rows_after : (whole now first second third : List ℕ) (ns : List ℕ) (cs : List Column) (zs : List ℤ) (i : ℕ)
    → RowsSoFar whole now (drop i ns) cs zs → i < length ns → first ≡ now ++ codes "    " → second ≡ first ++ row_text (take (get_or ns i 0) cs) zs
    → third ≡ second ++ 10 ∷ [] → RowsSoFar whole third (drop (i + 1) ns) (drop (get_or ns i 0) cs) (drop (get_or ns i 0) zs)
rows_after whole now first second third ns cs zs i r h e f g =
    let n : ℕ = get_or ns i 0 in
    let d : drop i ns ≡ n ∷ drop (suc i) ns = drop-cons ns i 0 h in
    let s = rows_head whole now n (drop (suc i) ns) cs zs (subst (λ l. RowsSoFar whole now l cs zs) d r) in
    let t : ((now ++ codes "    ") ++ row_text (take n cs) zs) ++ 10 ∷ [] ≡ third = cc in
    rw add-one (subst (λ l. RowsSoFar whole l (drop (suc i) ns) (drop n cs) (drop n zs)) t s)

-- all rows but the first as lines
pub rows_text-lines : (rows : List (List Column)) (zs : List ℤ)
    → rows_text (map length rows) (joined_rows rows) zs ≡ text_of (row_lines (codes "    ") rows zs)
rows_text-lines [] zs = refl
rows_text-lines (r ∷ rs) zs =
    rw (take-append_seam r (joined_rows rs), drop-append_seam r (joined_rows rs), rows_text-lines rs (drop (length r) zs)) refl

-- the first row fits where the rows have as many columns as there are
pub first_fits : (ns : List ℕ) (cs : List Column) (zs : List ℤ) → sum ns ≡ length cs → AreReady cs zs → 0 < length ns → get_or ns 0 0 ≤ length zs
first_fits ns cs zs e a h =
    (row_fits ([] ++ rows_text ns cs zs) [] ns cs zs 0 (record { count = e; ready = a; text = refl }) h).1

-- the slice pattern that leaves out the first
pub behind_first : (ns : List ℕ) → take (length ns - 1) (drop 1 ns) ≡ drop 1 ns
behind_first [] = refl
behind_first (n ∷ ns) = let e : suc (length ns) - 1 ≡ length ns = omega arith in rw (e, take-length ns) refl

lines_joined : (old : List ℕ) (rows : List (List Column)) (zs : List ℤ) → 0 < length (map length rows)
    → ((old ++ row_text (take (get_or (map length rows) 0 0) (joined_rows rows)) zs) ++ 10 ∷ [])
    ++ rows_text (drop 1 (map length rows)) (drop (get_or (map length rows) 0 0) (joined_rows rows)) (drop (get_or (map length rows) 0 0) zs)
    ≡ old ++ text_of (row_lines [] rows zs)
lines_joined old [] zs h = absurd (omega arith)
lines_joined old (r ∷ rs) zs h =
    rw (take-append_seam r (joined_rows rs), drop-append_seam r (joined_rows rs), rows_text-lines rs (drop (length r) zs)) (simp append_assoc)

-- the first row and those after it are the lines of all rows
pub table_lines : (old with_row with_end new : List ℕ) (ns : List ℕ) (cs first left : List Column) (zs fields_left : List ℤ) (more : List ℕ) (rows : List (List Column))
    → 0 < length ns → cs ≡ joined_rows rows → ns ≡ map length rows
    → first ≡ take (get_or ns 0 0) cs → left ≡ drop (get_or ns 0 0) cs → fields_left ≡ drop (get_or ns 0 0) zs
    → with_row ≡ old ++ row_text first zs → with_end ≡ with_row ++ 10 ∷ [] → more ≡ drop 1 ns → new ≡ with_end ++ rows_text more left fields_left
    → new ≡ old ++ text_of (row_lines [] rows zs)
table_lines old with_row with_end new ns cs first left zs fields_left more rows h e f i j k l m o n =
    let some : 0 < length (map length rows) = subst (λ a. 0 < length a) f h in
    let t = lines_joined old rows zs some in
    cc

start_joined : (start : List ℕ) (rows : List (List Column)) (zs : List ℤ) → 0 < length (map length rows)
    → text_of (row_lines start rows zs) ≡ start ++ text_of (row_lines [] rows zs)
start_joined start [] zs h = absurd (omega arith)
start_joined start (r ∷ rs) zs h = simp append_assoc

-- four columns, a date and the lines of all rows make a record without its title
pub body_joined : (old four date with_four with_date new : List ℕ) (rows : List (List Column)) (zs : List ℤ) → 0 < length (map length rows)
    → with_four ≡ old ++ four → with_date ≡ with_four ++ date → new ≡ with_date ++ text_of (row_lines [] rows zs) → new ≡ old ++ text_of (row_lines (four ++ date) rows zs)
body_joined old four date with_four with_date new rows zs h f g i =
    let s = start_joined (four ++ date) rows zs h in
    let joined : ((old ++ four) ++ date) ++ text_of (row_lines [] rows zs) ≡ old ++ ((four ++ date) ++ text_of (row_lines [] rows zs)) = simp append_assoc in
    cc

-- a title and that make a record
pub title_joined : (title with_title body new : List ℕ) → with_title ≡ title ++ 10 ∷ [] → new ≡ with_title ++ body → new ≡ title ++ 10 ∷ body
title_joined title with_title body new e f = f ∙ ap (λ (l : List ℕ). l ++ body) e ∙ append_assoc title (10 ∷ []) body

-- a title, four columns, a date and the lines of all rows make a record
pub record_joined : (title four date with_title with_four with_date new : List ℕ) (rows : List (List Column)) (zs : List ℤ) → 0 < length (map length rows)
    → with_title ≡ title ++ 10 ∷ [] → with_four ≡ with_title ++ four → with_date ≡ with_four ++ date
    → new ≡ with_date ++ text_of (row_lines [] rows zs) → new ≡ title ++ 10 ∷ text_of (row_lines (four ++ date) rows zs)
record_joined title four date with_title with_four with_date new rows zs h e f g i =
    title_joined title with_title (text_of (row_lines (four ++ date) rows zs)) new e (body_joined with_title four date with_four with_date new rows zs h f g i)

-- the pieces of a header make its lines
pub header_joined : (version first program date label before leap after end : List ℕ)
    → ((((((([] ++ version) ++ (first ++ 10 ∷ [])) ++ program) ++ date) ++ (label ++ 10 ∷ before)) ++ leap) ++ (after ++ 10 ∷ [])) ++ (end ++ 10 ∷ [])
    ≡ text_of ((version ++ first) ∷ (program ++ (date ++ label)) ∷ (before ++ (leap ++ after)) ∷ end ∷ [])
header_joined version first program date label before leap after end = simp append_assoc
