-- What a form looks at: the kept lines, and long lines as they are cut.
use Rattle.std.proofs.Common.{◌≡◌, ℕ, zero, suc, ◌+◌, ◌<◌, ◌≤◌, Bool, true, false, if◌then◌else◌, List, [], ◌∷◌, ◌++◌, length, take, map, codes, Ok, Err, refl, ap, sym, ◌∙◌, ⊎_elim, arith, append_assoc}
use Rattle.std.proofs.lemmas.Bool.{cases_lt, lt-ltb, le-ltb}
use Rattle.std.proofs.lemmas.List.{get_or-take}
use Rattle.scaled_decimal.specs.NumberReading.{trim_start, trim_end}
use Rattle.nav_io.specs.Lines.{line_of, lines_by, pieces, without_cr}
use Rattle.rinex_read.specs.declared.judged.HeaderFault.TheVariants.{NotRinexNav, Version}
use Rattle.rinex_read.specs.Lines.{ended_lines, lines_of, text_of_line, lines_stated}
use Rattle.rinex_read.specs.Kept.{padded, kept_with}
use Rattle.rinex_read.specs.Forms.{Form, LooksAtKept, is_version, begins}
use Rattle.rinex_read.specs.Files.{is_navigation, ends_header, header_passed, header_of, up_to_next, reads, reads_behind}
use Rattle.rinex_read.proofs.ColumnLemmas.{IsAlike, columns_alike, stands_alike, padded_alike, alike_itself}
use Rattle.rinex_read.proofs.AlikeLemmas.{AreAlike, are_itself}

-- replacing a line by one that is alike
replaced_alike : (n : ℕ) (ks : List (List ℕ)) (l m : List ℕ) (more : List (List ℕ)) → IsAlike l m → AreAlike n (ks ++ l ∷ more) (ks ++ m ∷ more)
replaced_alike zero ks l m more h = tt
replaced_alike (suc n) [] l m more h = (h, are_itself n more)
replaced_alike (suc n) (k ∷ ks) l m more h = (alike_itself k, replaced_alike n ks l m more h)

-- lines after the first n
behind_alike : (n : ℕ) (ks xs ys : List (List ℕ)) → n ≤ length ks → AreAlike n (ks ++ xs) (ks ++ ys)
behind_alike zero ks xs ys h = tt
behind_alike (suc n) [] xs ys h = absurd (omega arith)
behind_alike (suc n) (k ∷ ks) xs ys h = (alike_itself k, behind_alike n ks xs ys (omega arith))

-- lines that are alike are kept alike
same_kept : (n : ℕ) (ls ms : List (List ℕ)) → AreAlike n ls ms → map padded (take n ls) ≡ map padded (take n ms)
same_kept zero ls ms a = refl
same_kept (suc n) [] [] a = refl
same_kept (suc n) [] (m ∷ ms) a = absurd a
same_kept (suc n) (l ∷ ls) [] a = absurd a
same_kept (suc n) (l ∷ ls) (m ∷ ms) a =
    ap (λ t. t ∷ map padded (take n ls)) (columns_alike 80 0 l m a.0 (omega arith)) ∙ ap (λ t. padded m ∷ t) (same_kept n ls ms a.1)

-- and judged alike
form_alike : {R : Type 0} (f : Form R) → LooksAtKept f → (n : ℕ) (ls ms : List (List ℕ)) → AreAlike 18 ls ms → f.judged n ls ≡ f.judged n ms
form_alike f law n ls ms a = sym (law n ls) ∙ ap (f.judged n) (same_kept 18 ls ms a) ∙ law n ms

-- kept lines are judged as the lines are, whatever lines follow
pub form_kept : {R : Type 0} (f : Form R) → LooksAtKept f → (n : ℕ) (ks : List (List ℕ)) (l : List ℕ) (more : List (List ℕ)) → f.judged n (kept_with ks l ++ more) ≡ f.judged n (ks ++ l ∷ more)
form_kept f law n ks l more = ⊎_elim
    (λ (room : length ks < 18).
    ap (λ b. f.judged n ((if b then ks ++ padded l ∷ [] else ks) ++ more)) (lt-ltb (length ks) 18 room)
    ∙ ap (f.judged n) (append_assoc ks (padded l ∷ []) more)
    ∙ form_alike f law n (ks ++ padded l ∷ more) (ks ++ l ∷ more) (replaced_alike 18 ks (padded l) l more (padded_alike l)))
    (λ (full : 18 ≤ length ks).
    ap (λ b. f.judged n ((if b then ks ++ padded l ∷ [] else ks) ++ more)) (le-ltb (length ks) 18 full)
    ∙ form_alike f law n (ks ++ more) (ks ++ l ∷ more) (behind_alike 18 ks more (l ∷ more) full))
    (cases_lt (length ks) 18)

-- long lines are cut
abbrev cut : List ℕ → List ℕ
cut l = take 2200 l

cut_alike : (l : List ℕ) → IsAlike (cut l) l
cut_alike l = record { same = λ i h. get_or-take 2200 l i 32 (omega arith) }

cuts_alike : (n : ℕ) (ls : List (List ℕ)) → AreAlike n (map cut ls) ls
cuts_alike zero ls = tt
cuts_alike (suc n) [] = tt
cuts_alike (suc n) (l ∷ ls) = (cut_alike l, cuts_alike n ls)

begins_cut : {R : Type 0} (f : Form R) (l : List ℕ) → begins f (cut l) ≡ begins f l
begins_cut f l = ap f.starts ((cut_alike l).same 0 (omega arith))

up_to_cut : {R : Type 0} (f : Form R) (ls : List (List ℕ)) → up_to_next f (map cut ls) ≡ map cut (up_to_next f ls)
up_to_cut f [] = refl
up_to_cut f (l ∷ ls) =
    ap (λ b. if b then [] else cut l ∷ up_to_next f (map cut ls)) (begins_cut f l)
    ∙ ap (λ t. if begins f l then [] else cut l ∷ t) (up_to_cut f ls) ∙ by (begins f l)
  where
    by : (b : Bool) → (if b then [] else cut l ∷ map cut (up_to_next f ls)) ≡ map cut (if b then [] else l ∷ up_to_next f ls)
    by true = refl
    by false = refl

reads_cut : {R : Type 0} (f : Form R) → LooksAtKept f → (n : ℕ) (ls : List (List ℕ)) → reads f n (map cut ls) ≡ reads f n ls
reads_cut f law n [] = refl
reads_cut f law n (l ∷ ls) =
    let next = reads_cut f law (n + 1) ls in
    ap (λ b. if b then f.judged (n + 1) (cut l ∷ up_to_next f (map cut ls)) ∷ reads f (n + 1) (map cut ls) else reads f (n + 1) (map cut ls)) (begins_cut f l)
    ∙ ap (λ t. if begins f l then f.judged (n + 1) (cut l ∷ t) ∷ reads f (n + 1) (map cut ls) else reads f (n + 1) (map cut ls)) (up_to_cut f ls)
    ∙ ap (λ j. if begins f l then j ∷ reads f (n + 1) (map cut ls) else reads f (n + 1) (map cut ls))
    (form_alike f law (n + 1) (cut l ∷ map cut (up_to_next f ls)) (l ∷ up_to_next f ls) (cuts_alike 18 (l ∷ up_to_next f ls)))
    ∙ ap (λ rs. if begins f l then f.judged (n + 1) (l ∷ up_to_next f ls) ∷ rs else rs) next

pub ends_alike : (l m : List ℕ) → IsAlike l m → ends_header l ≡ ends_header m
unfolding ends_header
ends_alike l m h = stands_alike (codes "END OF HEADER") 60 l m h (omega arith)

pub navigation_alike : (l m : List ℕ) → IsAlike l m → is_navigation l ≡ is_navigation m
unfolding is_navigation
navigation_alike l m h =
    let label = stands_alike (codes "RINEX VERSION / TYPE") 60 l m h (omega arith) in
    let kind = stands_alike (codes "N") 20 l m h (omega arith) in
    rw (label, kind) refl

pub version_alike : {R : Type 0} (f : Form R) (l m : List ℕ) → IsAlike l m → is_version f l ≡ is_version f m
unfolding is_version
version_alike f l m h = ap (λ t. f.names (trim_end (trim_start t))) (columns_alike 9 0 l m h (omega arith))

passed_cut : {R : Type 0} (f : Form R) → LooksAtKept f → (n : ℕ) (ls : List (List ℕ)) → reads_behind f (header_passed n (map cut ls)) ≡ reads_behind f (header_passed n ls)
passed_cut f law n [] = refl
passed_cut f law n (l ∷ ls) =
    ap (λ b. reads_behind f (if b then Ok (record { number = n + 1; lines = map cut ls }) else header_passed (n + 1) (map cut ls))) (ends_alike (cut l) l (cut_alike l))
    ∙ by (ends_header l) (passed_cut f law (n + 1) ls)
  where
    by : (b : Bool) → reads_behind f (header_passed (n + 1) (map cut ls)) ≡ reads_behind f (header_passed (n + 1) ls)
        → reads_behind f (if b then Ok (record { number = n + 1; lines = map cut ls }) else header_passed (n + 1) (map cut ls))
        ≡ reads_behind f (if b then Ok (record { number = n + 1; lines = ls }) else header_passed (n + 1) ls)
    by true e = ap Ok (reads_cut f law (n + 1) ls)
    by false e = e

header_cut : {R : Type 0} (f : Form R) → LooksAtKept f → (n : ℕ) (ls : List (List ℕ)) → reads_behind f (header_of f n (map cut ls)) ≡ reads_behind f (header_of f n ls)
header_cut f law n [] = refl
header_cut f law n (l ∷ ls) =
    let next = passed_cut f law (n + 1) ls in
    ap (λ b. reads_behind f (if b then (if is_version f (cut l) then header_passed (n + 1) (map cut ls) else Err Version) else Err NotRinexNav)) (navigation_alike (cut l) l (cut_alike l))
    ∙ ap (λ b. reads_behind f (if is_navigation l then (if b then header_passed (n + 1) (map cut ls) else Err Version) else Err NotRinexNav)) (version_alike f (cut l) l (cut_alike l))
    ∙ by (is_navigation l) (is_version f l) next
  where
    by : (a b : Bool) → reads_behind f (header_passed (n + 1) (map cut ls)) ≡ reads_behind f (header_passed (n + 1) ls)
        → reads_behind f (if a then (if b then header_passed (n + 1) (map cut ls) else Err Version) else Err NotRinexNav)
        ≡ reads_behind f (if a then (if b then header_passed (n + 1) ls else Err Version) else Err NotRinexNav)
    by true true e = e
    by true false e = refl
    by false b e = refl

told_cut : (ps : List (List ℕ)) → map text_of_line (map line_of ps) ≡ map cut (map without_cr ps)
unfolding line_of
told_cut [] = refl
told_cut (p ∷ ps) = ap (λ t. cut (without_cr p) ∷ t) (told_cut ps)

-- the lines of a reader of lines give what the file gives
pub file_told : {R : Type 0} (f : Form R) → LooksAtKept f → (n : ℕ) (bytes : List ℕ) → reads_behind f (header_of f n (lines_stated bytes)) ≡ reads_behind f (header_of f n (lines_of bytes))
file_told f law n bytes = ap (λ ls. reads_behind f (header_of f n ls)) (told_cut (pieces false bytes)) ∙ header_cut f law n (lines_of bytes)

-- the same of the complete lines
pub ended_told : {R : Type 0} (f : Form R) → LooksAtKept f → (n : ℕ) (bytes : List ℕ) → reads_behind f (header_of f n (map text_of_line (lines_by true bytes))) ≡ reads_behind f (header_of f n (ended_lines bytes))
ended_told f law n bytes = ap (λ ls. reads_behind f (header_of f n ls)) (told_cut (pieces true bytes)) ∙ header_cut f law n (ended_lines bytes)
