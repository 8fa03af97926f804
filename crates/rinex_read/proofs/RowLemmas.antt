-- The loops over the columns of a row and over rows give what the definitions say.
use Rattle.std.proofs.Common.{◌≡◌, ℕ, zero, suc, ◌+◌, ◌*◌, ◌<◌, ◌≤◌, ◌&&◌, nat_le, true, List, [], ◌∷◌, ◌++◌, length, get_or, take, drop, map, sum, Result, Ok, Err, refl, ap, sym, ◌∙◌, arith, ℤ, append_assoc, append-nil, drop-cons, add-one}
use Rattle.std.proofs.lemmas.Bool.{and_parts, leb-true}
use Rattle.std.proofs.lemmas.List.Sums.{sum_by-cons}
use Rattle.rinex_write.specs.declared.columns.Column.{Column}
use Rattle.rinex_write.specs.Columns.{joined_rows, are_good, is_good_scale, is_good_rule}
use Rattle.rinex_read.specs.declared.reason.RecordFault.{RecordFault}
use Rattle.rinex_read.specs.Fields.{◌>>=◌, field_at, read_row, read_rows}
use Rattle.rinex_read.specs.Mirrors.{with_prefix, flat_rows, do_fit}

column_place : (cs : List Column) (i : ℕ) (d : Column) → i < length cs → drop i cs ≡ get_or cs i d ∷ drop (i + 1) cs
column_place cs i d h = rw (add-one, drop-cons cs i d)

behind : (now : List ℤ) (z : ℤ) (r : Result (List ℤ) RecordFault) → with_prefix now (r >>= λ zs. Ok (z ∷ zs)) ≡ with_prefix (now ++ z ∷ []) r
behind now z (Ok ws) = ap Ok (sym (append_assoc now (z ∷ []) ws))
behind now z (Err e) = refl

-- one more field of a row
pub row_more : (whole : Result (List ℤ) RecordFault) (cs : List Column) (now : List ℤ) (i : ℕ) (d : Column) (place : ℕ) (line : List ℕ) (z : ℤ) → i < length cs
    → field_at (get_or cs i d) (place + 19 * i) line ≡ Ok z → whole ≡ with_prefix now (read_row (drop i cs) (place + 19 * i) line)
    → whole ≡ with_prefix (now ++ z ∷ []) (read_row (drop (i + 1) cs) (place + 19 * (i + 1)) line)
row_more whole cs now i d place line z h is so =
    let next : place + 19 * i + 19 ≡ place + 19 * (i + 1) = omega arith in
    so ∙ ap (λ t. with_prefix now (read_row t (place + 19 * i) line)) (column_place cs i d h)
    ∙ ap (λ r. with_prefix now (r >>= λ x. read_row (drop (i + 1) cs) (place + 19 * i + 19) line >>= λ xs. Ok (x ∷ xs))) is
    ∙ behind now z (read_row (drop (i + 1) cs) (place + 19 * i + 19) line)
    ∙ ap (λ a. with_prefix (now ++ z ∷ []) (read_row (drop (i + 1) cs) a line)) next

-- a field that cannot be read
pub row_stops : (whole : Result (List ℤ) RecordFault) (cs : List Column) (now : List ℤ) (i : ℕ) (d : Column) (place : ℕ) (line : List ℕ) (e : RecordFault) → i < length cs
    → field_at (get_or cs i d) (place + 19 * i) line ≡ Err e → whole ≡ with_prefix now (read_row (drop i cs) (place + 19 * i) line) → whole ≡ Err e
row_stops whole cs now i d place line e h is so =
    so ∙ ap (λ t. with_prefix now (read_row t (place + 19 * i) line)) (column_place cs i d h)
    ∙ ap (λ r. with_prefix now (r >>= λ x. read_row (drop (i + 1) cs) (place + 19 * i + 19) line >>= λ xs. Ok (x ∷ xs))) is

nothing_left : {A : Type 0} (xs : List A) → drop (length xs) xs ≡ []
nothing_left [] = refl
nothing_left (x ∷ xs) = nothing_left xs

pub row_ends : (whole : Result (List ℤ) RecordFault) (cs : List Column) (now : List ℤ) (i a : ℕ) (line : List ℕ) → i ≡ length cs
    → whole ≡ with_prefix now (read_row (drop i cs) a line) → whole ≡ Ok now
row_ends whole cs now i a line e so =
    so ∙ ap (λ k. with_prefix now (read_row (drop k cs) a line)) e ∙ ap (λ t. with_prefix now (read_row t a line)) (nothing_left cs) ∙ ap Ok (append-nil now)

prefix_more : (now new : List ℤ) (r f : Result (List ℤ) RecordFault) → with_prefix now r ≡ Ok new → with_prefix now (r >>= λ zs. f >>= λ ws. Ok (zs ++ ws)) ≡ with_prefix new f
prefix_more now new (Ok zs) (Ok ws) e = let is : now ++ zs ≡ new = cc in ap Ok (sym (append_assoc now zs ws) ∙ ap (λ l. l ++ ws) is)
prefix_more now new (Ok zs) (Err g) e = refl
prefix_more now new (Err g) f e = absurd (cc)

prefix_stops : (now : List ℤ) (r f : Result (List ℤ) RecordFault) (e : RecordFault) → with_prefix now r ≡ Err e → with_prefix now (r >>= λ zs. f >>= λ ws. Ok (zs ++ ws)) ≡ Err e
prefix_stops now (Ok zs) f e h = absurd (cc)
prefix_stops now (Err g) f e h = h

number_place : (ns : List ℕ) (i : ℕ) → i < length ns → drop i ns ≡ get_or ns i 0 ∷ drop (i + 1) ns
number_place ns i h = rw (add-one, drop-cons ns i 0)

line_place : (ls : List (List ℕ)) (i : ℕ) (d : List ℕ) → i < length ls → drop i ls ≡ get_or ls i d ∷ drop (i + 1) ls
line_place ls i d h = rw (add-one, drop-cons ls i d)

opened : (whole : Result (List ℤ) RecordFault) (ns : List ℕ) (cs : List Column) (now : List ℤ) (i place : ℕ) (ls : List (List ℕ)) (d : List ℕ) → i < length ns → i < length ls
    → whole ≡ with_prefix now (flat_rows (drop i ns) cs place (drop i ls))
    → whole ≡ with_prefix now (read_row (take (get_or ns i 0) cs) place (get_or ls i d) >>= λ zs. flat_rows (drop (i + 1) ns) (drop (get_or ns i 0) cs) 4 (drop (i + 1) ls) >>= λ ws. Ok (zs ++ ws))
opened whole ns cs now i place ls d h k so =
    so ∙ ap (λ t. with_prefix now (flat_rows t cs place (drop i ls))) (number_place ns i h)
    ∙ ap (λ t. with_prefix now (flat_rows (get_or ns i 0 ∷ drop (i + 1) ns) cs place t)) (line_place ls i d k)

drop_none : (n : ℕ) → drop {A = Column} n [] ≡ []
drop_none zero = refl
drop_none (suc n) = refl

dropped : (a n : ℕ) (xs : List Column) → drop n (drop a xs) ≡ drop (a + n) xs
dropped zero n xs = let none : n ≡ 0 + n = omega arith in ap (λ k. drop k xs) none
dropped (suc a) n [] = drop_none n ∙ sym (drop_none (suc a + n))
dropped (suc a) n (x ∷ xs) = let next : suc (a + n) ≡ suc a + n = omega arith in dropped a n xs ∙ ap (λ k. drop k (x ∷ xs)) next

-- one more row, with its number of columns
pub rows_more : (whole : Result (List ℤ) RecordFault) (ns : List ℕ) (cs : List Column) (now new : List ℤ) (i at j place : ℕ) (ls : List (List ℕ)) (d : List ℕ) → i < length ns → i < length ls
    → j ≡ get_or ns i 0 → with_prefix now (read_row (take j (drop at cs)) place (get_or ls i d)) ≡ Ok new
    → whole ≡ with_prefix now (flat_rows (drop i ns) (drop at cs) place (drop i ls))
    → whole ≡ with_prefix new (flat_rows (drop (i + 1) ns) (drop (at + get_or ns i 0) cs) 4 (drop (i + 1) ls))
rows_more whole ns cs now new i at j place ls d h k count is so =
    let read = ap (λ n. with_prefix now (read_row (take n (drop at cs)) place (get_or ls i d))) (sym count) ∙ is in
    opened whole ns (drop at cs) now i place ls d h k so
    ∙ prefix_more now new (read_row (take (get_or ns i 0) (drop at cs)) place (get_or ls i d)) (flat_rows (drop (i + 1) ns) (drop (get_or ns i 0) (drop at cs)) 4 (drop (i + 1) ls)) read
    ∙ ap (λ t. with_prefix new (flat_rows (drop (i + 1) ns) t 4 (drop (i + 1) ls))) (dropped at (get_or ns i 0) cs)

-- a row with a field that cannot be read
pub rows_stop : (whole : Result (List ℤ) RecordFault) (ns : List ℕ) (cs : List Column) (now : List ℤ) (i j place : ℕ) (ls : List (List ℕ)) (d : List ℕ) (e : RecordFault) → i < length ns → i < length ls
    → j ≡ get_or ns i 0 → with_prefix now (read_row (take j cs) place (get_or ls i d)) ≡ Err e
    → whole ≡ with_prefix now (flat_rows (drop i ns) cs place (drop i ls)) → whole ≡ Err e
rows_stop whole ns cs now i j place ls d e h k count is so =
    let read = ap (λ n. with_prefix now (read_row (take n cs) place (get_or ls i d))) (sym count) ∙ is in
    opened whole ns cs now i place ls d h k so
    ∙ prefix_stops now (read_row (take (get_or ns i 0) cs) place (get_or ls i d)) (flat_rows (drop (i + 1) ns) (drop (get_or ns i 0) cs) 4 (drop (i + 1) ls)) e read

pub rows_end : (whole : Result (List ℤ) RecordFault) (ns : List ℕ) (cs : List Column) (now : List ℤ) (i a : ℕ) (ls : List (List ℕ)) → i ≡ length ns
    → whole ≡ with_prefix now (flat_rows (drop i ns) cs a ls) → whole ≡ Ok now
rows_end whole ns cs now i a ls e so =
    so ∙ ap (λ k. with_prefix now (flat_rows (drop k ns) cs a ls)) e ∙ ap (λ t. with_prefix now (flat_rows t cs a ls)) (nothing_left ns) ∙ ap Ok (append-nil now)

pub rows_start : (r : Result (List ℤ) RecordFault) → r ≡ with_prefix [] r
rows_start (Ok zs) = refl
rows_start (Err e) = refl

-- a part of good columns
pub good_take : (n : ℕ) (cs : List Column) → are_good cs ≡ true → are_good (take n cs) ≡ true
good_take zero cs h = refl
good_take (suc n) [] h = refl
good_take (suc n) (c ∷ cs) h =
    let parts = and_parts (is_good_scale c.scale && is_good_rule c.scale c.rule) (are_good cs) h in
    ap (λ b. b && are_good (take n cs)) parts.0 ∙ good_take n cs parts.1

pub good_drop : (n : ℕ) (cs : List Column) → are_good cs ≡ true → are_good (drop n cs) ≡ true
good_drop zero cs h = h
good_drop (suc n) [] h = refl
good_drop (suc n) (c ∷ cs) h =
    let parts = and_parts (is_good_scale c.scale && is_good_rule c.scale c.rule) (are_good cs) h in
    good_drop n cs parts.1

-- the next line of columns fits, and those after it
pub fit_next : (ns : List ℕ) (a i : ℕ) → i < length ns → do_fit a (drop i ns) ≡ true → (a + 19 * get_or ns i 0 ≤ 80) × (do_fit 4 (drop (i + 1) ns) ≡ true)
fit_next ns a i h fit =
    let both = and_parts (nat_le (a + 19 * get_or ns i 0) 80) (do_fit 4 (drop (i + 1) ns)) (ap (do_fit a) (sym (number_place ns i h)) ∙ fit) in
    (leb-true (a + 19 * get_or ns i 0) 80 both.0, both.1)

pub sum_next : (ns : List ℕ) (i : ℕ) → i < length ns → sum (drop i ns) ≡ get_or ns i 0 + sum (drop (i + 1) ns)
sum_next ns i h = ap sum (number_place ns i h) ∙ sum_by-cons (λ n. n) (get_or ns i 0) (drop (i + 1) ns)

take_prefix : (xs ys : List Column) → take (length xs) (xs ++ ys) ≡ xs
take_prefix [] ys = refl
take_prefix (x ∷ xs) ys = ap (λ t. x ∷ t) (take_prefix xs ys)

drop_prefix : (xs ys : List Column) → drop (length xs) (xs ++ ys) ≡ ys
drop_prefix [] ys = refl
drop_prefix (x ∷ xs) ys = drop_prefix xs ys

-- rows as one list of columns are read as rows
pub flat_is : (rows : List (List Column)) (a : ℕ) (ls : List (List ℕ)) → flat_rows (map length rows) (joined_rows rows) a ls ≡ read_rows rows a ls
flat_is [] a ls = refl
flat_is (r ∷ rs) a [] = refl
flat_is (r ∷ rs) a (l ∷ ls) =
    ap (λ t. read_row t a l >>= λ zs. flat_rows (map length rs) (drop (length r) (r ++ joined_rows rs)) 4 ls >>= λ ws. Ok (zs ++ ws)) (take_prefix r (joined_rows rs))
    ∙ ap (λ t. read_row r a l >>= λ zs. flat_rows (map length rs) t 4 ls >>= λ ws. Ok (zs ++ ws)) (drop_prefix r (joined_rows rs))
    ∙ ap (λ x. read_row r a l >>= λ zs. x >>= λ ws. Ok (zs ++ ws)) (flat_is rs 4 ls)
