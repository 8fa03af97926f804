-- Columns past 80, lines past the last of a layout, and what is cut off long lines do not matter.
use Rattle.std.proofs.Common.{◌≡◌, ℕ, zero, suc, ◌+◌, ◌*◌, ◌<◌, ◌≤◌, ◌&&◌, nat_le, Bool, true, List, [], ◌∷◌, ◌++◌, length, get_or, set, take, map, Ok, refl, ap, sym, ◌∙◌, ⊎_elim, arith}
use Rattle.std.proofs.lemmas.Bool.{and_parts, cases_lt, leb-true, le-leb, lt-leb}
use Rattle.nav_eph.specs.declared.sat.System.{System}
use Rattle.rinex_write.specs.declared.columns.Column.{Column}
use Rattle.rinex_write.specs.Layouts.{Kind, gps_kind, galileo_kind, gps_ionosphere_kind, galileo_ionosphere_kind, gps_rows, galileo_rows, gps_ionosphere_rows, galileo_ionosphere_rows}
use Rattle.rinex_write.specs.Texts.{letter_of}
use Rattle.rinex_read.specs.Lines.{columns, stands_at}
use Rattle.rinex_read.specs.Fields.{◌>>=◌, field_of, field_at, read_row, read_rows}
use Rattle.rinex_read.specs.Judging.{first_of, is_kind, sat_of, satellite_of, same_sat, date_of, ephemeris_stated, ionosphere_stated, judged}
use Rattle.rinex_read.specs.Kept.{padded}
use Rattle.rinex_read.proofs.ColumnLemmas.{IsAlike, columns_alike, stands_alike, length-columns, padded_alike, alike_itself}

-- the first n lines are alike, and there are as many where there are fewer
abbrev pub AreAlike : ℕ → List (List ℕ) → List (List ℕ) → Type 0
AreAlike zero ls ms = Unit {0}
AreAlike (suc n) [] [] = Unit {0}
AreAlike (suc n) [] (m ∷ ms) = ⊥
AreAlike (suc n) (l ∷ ls) [] = ⊥
AreAlike (suc n) (l ∷ ls) (m ∷ ms) = IsAlike l m × AreAlike n ls ms

le_suc : (k x : ℕ) → nat_le (suc k) (suc x) ≡ nat_le k x
le_suc k x = ⊎_elim
    (λ (low : x < k). lt-leb (suc k) (suc x) (omega arith) ∙ sym (lt-leb k x low))
    (λ (high : k ≤ x). le-leb (suc k) (suc x) (omega arith) ∙ sym (le-leb k x high))
    (cases_lt x k)

pub all_alike : (n k : ℕ) (ls ms : List (List ℕ)) → k ≤ n → AreAlike n ls ms → nat_le k (length ls) ≡ nat_le k (length ms)
all_alike n zero ls ms h a = le-leb 0 (length ls) (omega arith) ∙ sym (le-leb 0 (length ms) (omega arith))
all_alike zero (suc k) ls ms h a = absurd (omega arith)
all_alike (suc n) (suc k) [] [] h a = refl
all_alike (suc n) (suc k) [] (m ∷ ms) h a = absurd a
all_alike (suc n) (suc k) (l ∷ ls) [] h a = absurd a
all_alike (suc n) (suc k) (l ∷ ls) (m ∷ ms) h a =
    le_suc k (length ls) ∙ all_alike n k ls ms (omega arith) a.1 ∙ sym (le_suc k (length ms))

first_alike : (n : ℕ) (ls ms : List (List ℕ)) → AreAlike (suc n) ls ms → IsAlike (first_of ls) (first_of ms)
first_alike n [] [] a = alike_itself []
first_alike n [] (m ∷ ms) a = absurd a
first_alike n (l ∷ ls) [] a = absurd a
first_alike n (l ∷ ls) (m ∷ ms) a = a.0

-- each row ends by column 80
abbrev fits : ℕ → List (List Column) → Bool
fits a [] = true
fits a (r ∷ rs) = nat_le (a + 19 * length r) 80 && fits 4 rs

row_alike : (cs : List Column) (a : ℕ) (l m : List ℕ) → IsAlike l m → a + 19 * length cs ≤ 80 → read_row cs a l ≡ read_row cs a m
row_alike [] a l m h k = refl
row_alike (c ∷ cs) a l m h k =
    ap (λ t. field_of c t >>= λ z. read_row cs (a + 19) l >>= λ zs. Ok (z ∷ zs)) (columns_alike 19 a l m h (omega arith))
    ∙ ap (λ r. field_at c a m >>= λ z. r >>= λ zs. Ok (z ∷ zs)) (row_alike cs (a + 19) l m h (omega arith))

rows_alike : (rows : List (List Column)) (n a : ℕ) (ls ms : List (List ℕ)) → length rows ≤ n → AreAlike n ls ms → fits a rows ≡ true → read_rows rows a ls ≡ read_rows rows a ms
rows_alike [] n a ls ms few h fit = refl
rows_alike (r ∷ rs) zero a ls ms few h fit = absurd (omega arith)
rows_alike (r ∷ rs) (suc n) a [] [] few h fit = refl
rows_alike (r ∷ rs) (suc n) a [] (m ∷ ms) few h fit = absurd h
rows_alike (r ∷ rs) (suc n) a (l ∷ ls) [] few h fit = absurd h
rows_alike (r ∷ rs) (suc n) a (l ∷ ls) (m ∷ ms) few h fit =
    let both = and_parts (nat_le (a + 19 * length r) 80) (fits 4 rs) fit in
    ap (λ x. x >>= λ zs. read_rows rs 4 ls >>= λ ws. Ok (zs ++ ws)) (row_alike r a l m h.0 (leb-true _ _ both.0))
    ∙ ap (λ x. read_row r a m >>= λ zs. x >>= λ ws. Ok (zs ++ ws)) (rows_alike rs n 4 ls ms (omega arith) h.1 both.1)

sat_alike : (system : System) (l m : List ℕ) → IsAlike l m → sat_of system l ≡ sat_of system m
sat_alike system l m h =
    ap (λ c. satellite_of system c (get_or l 8 32)) (h.same 7 (omega arith)) ∙ ap (satellite_of system (get_or m 7 32)) (h.same 8 (omega arith))

same_alike : (t u l m : List ℕ) → IsAlike t u → IsAlike l m → same_sat t l ≡ same_sat u m
same_alike t u l m g h =
    ap (λ c. stands_at 0 c l) (columns_alike 3 6 t u g (omega arith)) ∙ stands_alike (columns 6 3 u) 0 l m h (omega (arith, length-columns 3 6 u))

date_alike : (l m : List ℕ) → IsAlike l m → date_of l ≡ date_of m
unfolding date_of
date_alike l m h =
    let year = columns_alike 4 4 l m h (omega arith) in
    let month = columns_alike 2 9 l m h (omega arith) in
    let day = columns_alike 2 12 l m h (omega arith) in
    let hour = columns_alike 2 15 l m h (omega arith) in
    let minute = columns_alike 2 18 l m h (omega arith) in
    let second = columns_alike 2 21 l m h (omega arith) in
    rw (year, month, day, hour, minute, second) refl

-- a kind whose title and rows are in the first 80 columns, with at most eight rows
record IsLaidOut (k : Kind) : Type 0 where
  pub class : 2 + length k.class ≤ 80
  pub message : 10 + length k.message ≤ 80
  pub few : length k.rows ≤ 8
  pub fit : fits 23 k.rows ≡ true

gps_laid : IsLaidOut gps_kind
unfolding gps_kind gps_rows
gps_laid = record { class = omega arith; message = omega arith; few = omega arith; fit = refl }

galileo_laid : IsLaidOut galileo_kind
unfolding galileo_kind galileo_rows
galileo_laid = record { class = omega arith; message = omega arith; few = omega arith; fit = refl }

gps_ionosphere_laid : IsLaidOut gps_ionosphere_kind
unfolding gps_ionosphere_kind gps_ionosphere_rows
gps_ionosphere_laid = record { class = omega arith; message = omega arith; few = omega arith; fit = refl }

galileo_ionosphere_laid : IsLaidOut galileo_ionosphere_kind
unfolding galileo_ionosphere_kind galileo_ionosphere_rows
galileo_ionosphere_laid = record { class = omega arith; message = omega arith; few = omega arith; fit = refl }

kind_alike : (k : Kind) (l m : List ℕ) → IsLaidOut k → IsAlike l m → is_kind k l ≡ is_kind k m
kind_alike k l m laid h =
    let class = stands_alike k.class 2 l m h laid.class in
    let system = stands_alike (letter_of k.system ∷ []) 6 l m h (omega arith) in
    let message = stands_alike k.message 10 l m h laid.message in
    rw (class, system, message) refl

ephemeris_alike : (k : Kind) (t u : List ℕ) (ls ms : List (List ℕ)) → IsLaidOut k → IsAlike t u → AreAlike 8 ls ms → ephemeris_stated k t ls ≡ ephemeris_stated k u ms
unfolding ephemeris_stated
ephemeris_alike k t u ls ms laid h a =
    let first = first_alike 7 ls ms a in
    let sat = sat_alike k.system t u h in
    let all = all_alike 8 (length k.rows) ls ms laid.few a in
    let same = same_alike t u (first_of ls) (first_of ms) h first in
    let date = date_alike (first_of ls) (first_of ms) first in
    let rows = rows_alike k.rows 8 23 ls ms laid.few a laid.fit in
    rw (sat, all, same, date, rows) refl

ionosphere_alike : (k : Kind) (t u : List ℕ) (ls ms : List (List ℕ)) → IsLaidOut k → IsAlike t u → AreAlike 8 ls ms → ionosphere_stated k t ls ≡ ionosphere_stated k u ms
unfolding ionosphere_stated
ionosphere_alike k t u ls ms laid h a =
    let first = first_alike 7 ls ms a in
    let sat = sat_alike k.system t u h in
    let all = all_alike 8 (length k.rows) ls ms laid.few a in
    let date = date_alike (first_of ls) (first_of ms) first in
    let rows = rows_alike k.rows 8 23 ls ms laid.few a laid.fit in
    rw (sat, all, date, rows) refl

-- judging looks only at the first 80 columns of the first nine lines
pub judged_alike : (ls ms : List (List ℕ)) → AreAlike 9 ls ms → judged ls ≡ judged ms
unfolding judged
judged_alike [] [] a = refl
judged_alike [] (m ∷ ms) a = absurd a
judged_alike (l ∷ ls) [] a = absurd a
judged_alike (t ∷ ls) (u ∷ ms) a =
    let k1 = kind_alike gps_kind t u gps_laid a.0 in
    let k2 = kind_alike galileo_kind t u galileo_laid a.0 in
    let k3 = kind_alike gps_ionosphere_kind t u gps_ionosphere_laid a.0 in
    let k4 = kind_alike galileo_ionosphere_kind t u galileo_ionosphere_laid a.0 in
    let s1 = ephemeris_alike gps_kind t u ls ms gps_laid a.0 a.1 in
    let s2 = ephemeris_alike galileo_kind t u ls ms galileo_laid a.0 a.1 in
    let s3 = ionosphere_alike gps_ionosphere_kind t u ls ms gps_ionosphere_laid a.0 a.1 in
    let s4 = ionosphere_alike galileo_ionosphere_kind t u ls ms galileo_ionosphere_laid a.0 a.1 in
    rw (k1, k2, k3, k4, s1, s2, s3, s4) refl

pub looked_alike : (n : ℕ) (ls : List (List ℕ)) → AreAlike n (map padded (take n ls)) ls
looked_alike zero ls = tt
looked_alike (suc n) [] = tt
looked_alike (suc n) (l ∷ ls) = (padded_alike l, looked_alike n ls)

-- where more lines are alike, so are fewer
pub fewer_alike : (n k : ℕ) (ls ms : List (List ℕ)) → n ≤ k → AreAlike k ls ms → AreAlike n ls ms
fewer_alike zero k ls ms h a = tt
fewer_alike (suc n) zero ls ms h a = absurd (omega arith)
fewer_alike (suc n) (suc k) [] [] h a = tt
fewer_alike (suc n) (suc k) [] (m ∷ ms) h a = absurd a
fewer_alike (suc n) (suc k) (l ∷ ls) [] h a = absurd a
fewer_alike (suc n) (suc k) (l ∷ ls) (m ∷ ms) h a = (a.0, fewer_alike n k ls ms (omega arith) a.1)

-- what matters of lines is judged as the lines are
pub judged_looked_at : (ls : List (List ℕ)) → judged (map padded (take 9 ls)) ≡ judged ls
judged_looked_at ls = judged_alike (map padded (take 9 ls)) ls (looked_alike 9 ls)

-- and so is what is stored of them
pub judged_stored : (ls : List (List ℕ)) → judged (map padded (take 18 ls)) ≡ judged ls
judged_stored ls = judged_alike (map padded (take 18 ls)) ls (fewer_alike 9 18 _ ls (omega arith) (looked_alike 18 ls))

pub are_itself : (n : ℕ) (ls : List (List ℕ)) → AreAlike n ls ls
are_itself zero ls = tt
are_itself (suc n) [] = tt
are_itself (suc n) (l ∷ ls) = (alike_itself l, are_itself n ls)

-- of a title what is kept matters
pub judged_title : (title : List ℕ) (ls : List (List ℕ)) → judged (padded title ∷ ls) ≡ judged (title ∷ ls)
judged_title title ls = judged_alike (padded title ∷ ls) (title ∷ ls) (padded_alike title, are_itself 8 ls)

-- ---- what is kept is kept again as it is

padded_again : (l : List ℕ) → padded (padded l) ≡ padded l
padded_again l = columns_alike 80 0 (padded l) l (padded_alike l) (omega arith)

-- one line more
pub kept_more : (n : ℕ) (xs : List (List ℕ)) (l : List ℕ) → n < length xs → map padded (take n xs) ≡ take n xs → map padded (take (suc n) (set xs n (padded l))) ≡ take (suc n) (set xs n (padded l))
kept_more n [] l h kept = absurd (omega arith)
kept_more zero (x ∷ xs) l h kept = ap (λ (k : List ℕ). k ∷ []) (padded_again l)
kept_more (suc n) (x ∷ xs) l h kept =
    let first : padded x ≡ x = cc in
    let rest : map padded (take n xs) ≡ take n xs = cc in
    ap (λ (k : List ℕ). k ∷ map padded (take (suc n) (set xs n (padded l)))) first ∙ ap (λ (ks : List (List ℕ)). x ∷ ks) (kept_more n xs l (omega arith) rest)
