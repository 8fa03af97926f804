-- Lines that are cut: of a line that has not ended the first 81 bytes matter.
use Rattle.std.specs.Prelude.{◌≡◌, ◌+◌, ◌<◌, ◌≤◌, ◌==◌, ◌&&◌, ◌++◌, ℕ, zero, suc, Bool, true, false, if◌then◌else◌, List, [], ◌∷◌, length, min, ◌-◌, take, drop, map, replicate, refl}
use Rattle.std.proofs.Common.{sym, ap, ◌∙◌, arith, append-nil, length-append, length-take, ⊎_elim}
use Rattle.std.proofs.lemmas.List.{take_all, take_min, drop_all, drop-take, take-take, take-append-le}
use Rattle.std.proofs.Math.Seq.{take-append-add}
use Rattle.std.proofs.lemmas.Bool.{cases_lt}
use Rattle.nav_io.specs.Lines.{ends, with_prefix, pieces, without_cr}
use Rattle.nav_io.specs.Pieces.{with_ends}
use Rattle.rinex_lines.specs.Columns.{padded}
use Rattle.rinex_lines.specs.Files.{is_none, is_open, lines_from, text_from}
use Rattle.rinex_lines.specs.Lines.{after, lines_at}
use Rattle.rinex_lines.specs.declared.place.Place.{Place}

-- ---- bytes without LF

ends_if : (b e : Bool) → (if b then true else e) ≡ false → (b ≡ false) × (e ≡ false)
ends_if true e h = absurd cc
ends_if false e h = (refl, h)

ends_cons : (x : ℕ) (xs : List ℕ) → ends (x ∷ xs) ≡ false → ((x == 10) ≡ false) × (ends xs ≡ false)
ends_cons x xs h = ends_if (x == 10) (ends xs) h

pub ends_append : (p q : List ℕ) → ends p ≡ false → ends q ≡ false → ends (p ++ q) ≡ false
ends_append [] q a b = b
ends_append (x ∷ p) q a b =
    let parts = ends_cons x p a in
    rw parts.0 (ends_append p q parts.1 b)

pub ends_take : (n : ℕ) (p : List ℕ) → ends p ≡ false → ends (take n p) ≡ false
ends_take zero p h = refl
ends_take (suc n) [] h = refl
ends_take (suc n) (x ∷ p) h =
    let parts = ends_cons x p h in
    rw parts.0 (ends_take n p parts.1)

-- ---- the pieces of bytes that begin without LF

abbrev fronted : List ℕ → List (List ℕ) → List (List ℕ)
fronted [] lines = lines
fronted (x ∷ p) lines = with_prefix false x (fronted p lines)

pieces_fronted : (p q : List ℕ) → ends p ≡ false → pieces false (p ++ q) ≡ fronted p (pieces false q)
pieces_fronted [] q h = refl
pieces_fronted (x ∷ p) q h =
    let parts = ends_cons x p h in
    rw (parts.0, pieces_fronted p q parts.1) refl

fronted_line : (p line : List ℕ) (lines : List (List ℕ)) → fronted p (line ∷ lines) ≡ (p ++ line) ∷ lines
fronted_line [] line lines = refl
fronted_line (x ∷ p) line lines = rw (fronted_line p line lines) refl

fronted_last : (x : ℕ) (p : List ℕ) → fronted (x ∷ p) [] ≡ (x ∷ p) ∷ []
fronted_last x [] = refl
fronted_last x (y ∷ p) = rw (fronted_last y p) refl

-- the last line, without LF
pub pieces_last : (x : ℕ) (p : List ℕ) → ends (x ∷ p) ≡ false → pieces false (x ∷ p) ≡ (x ∷ p) ∷ []
pieces_last x p h =
    ap (pieces false) (sym (append-nil (x ∷ p))) ∙ pieces_fronted (x ∷ p) [] h ∙ fronted_last x p

-- ---- bytes that come to others

-- as many as there is room for
pub filled : (n k : ℕ) (xs ys : List ℕ) → length xs ≤ n → k ≡ min (n - length xs) (length ys) → xs ++ take k ys ≡ take n (xs ++ ys)
filled n k xs ys room is =
    let all : length xs + (n - length xs) ≡ n = omega (arith, room) in
    ap (λ (k : ℕ). xs ++ take k ys) is ∙ ap (λ (l : List ℕ). xs ++ l) (take_min (n - length xs) ys)
    ∙ sym (take-append-add xs ys (n - length xs)) ∙ ap (λ (k : ℕ). take k (xs ++ ys)) all

-- the first bytes of a part
pub part_first : (start count end : ℕ) (xs : List ℕ) → start + count ≤ end
    → drop start (take (start + count) xs) ≡ take count (drop start (take end xs))
part_first start count end xs within =
    let all : start + (end - start) ≡ end = omega (arith, within) in
    drop-take start count xs ∙ sym (take-take count (end - start) (drop start xs) (omega (arith, within)))
    ∙ ap (take count) (sym (drop-take start (end - start) xs) ∙ ap (λ (k : ℕ). drop start (take k xs)) all)

-- ---- the columns of a line that is cut

cr_if : (b : Bool) (x : ℕ) → 1 ≤ length (if b then [] else x ∷ []) + 1
cr_if true x = omega arith
cr_if false x = omega arith

without_cr_length : (l : List ℕ) → length l ≤ length (without_cr l) + 1
without_cr_length [] = omega arith
without_cr_length (x ∷ []) = cr_if (x == 13) x
without_cr_length (x ∷ y ∷ ys) =
    let more = without_cr_length (y ∷ ys) in
    omega (arith, more)

take_without_cr : (m : ℕ) (l : List ℕ) → m < length l → take m (without_cr l) ≡ take m l
take_without_cr zero l h = refl
take_without_cr (suc m) [] h = absurd (omega arith)
take_without_cr (suc m) (x ∷ []) h = absurd (omega arith)
take_without_cr (suc m) (x ∷ y ∷ ys) h = ap (λ (l : List ℕ). x ∷ l) (take_without_cr m (y ∷ ys) (omega arith))

abbrev blanks : List ℕ
blanks = replicate 80 32

blanks_length : length blanks ≡ 80
blanks_length = refl

padded_long : (l : List ℕ) → 80 < length l → padded (without_cr l) ≡ take 80 l
padded_long l h =
    let some = without_cr_length l in
    let none : drop (min 80 (length (without_cr l))) blanks ≡ [] =
    drop_all (min 80 (length (without_cr l))) blanks (omega (arith, some, h, blanks_length)) in
    ap (λ (rest : List ℕ). take 80 (without_cr l) ++ rest) none ∙ append-nil (take 80 (without_cr l)) ∙ take_without_cr 80 l h

padded_cut : (p l : List ℕ) → padded (without_cr (take 81 p ++ l)) ≡ padded (without_cr (p ++ l))
padded_cut p l = ⊎_elim
    (λ (long : 81 < length p).
    let cut : length (take 81 p) ≡ 81 = length-take 81 p ∙ omega arith in
    padded_long (take 81 p ++ l) (omega (arith, cut, length-append (take 81 p) l))
    ∙ take-append-le 80 (take 81 p) l (omega (arith, cut)) ∙ take-take 80 81 p (omega arith)
    ∙ sym (take-append-le 80 p l (omega arith)) ∙ sym (padded_long (p ++ l) (omega (arith, length-append p l))))
    (λ (short : length p ≤ 81). rw (take_all 81 p short) refl)
    (cases_lt 81 (length p))

-- ---- the text of bytes

-- the lines as which pieces are read
abbrev lines_of : Bool → Place → List (List ℕ) → List (List ℕ)
lines_of unended place ps = lines_from unended place (map without_cr ps)

line_cut : (unended : Bool) (place : Place) (a b : List ℕ) (ps : List (List ℕ)) → padded (without_cr a) ≡ padded (without_cr b)
    → lines_of unended place (a ∷ ps) ≡ lines_of unended place (b ∷ ps)
line_cut unended place a b ps same =
    ap (λ (line : List ℕ). lines_at (is_none (map without_cr ps) && unended) place line ++ lines_from unended (after place line) (map without_cr ps))
    same

fronted_cut : (unended : Bool) (place : Place) (p : List ℕ) (ps : List (List ℕ))
    → lines_of unended place (fronted (take 81 p) ps) ≡ lines_of unended place (fronted p ps)
fronted_cut unended place p (line ∷ ps) =
    ap (lines_of unended place) (fronted_line (take 81 p) line ps) ∙ line_cut unended place (take 81 p ++ line) (p ++ line) ps (padded_cut p line)
    ∙ sym (ap (lines_of unended place) (fronted_line p line ps))
fronted_cut unended place [] [] = refl
fronted_cut unended place (x ∷ p) [] =
    let same : padded (without_cr (take 81 (x ∷ p))) ≡ padded (without_cr (x ∷ p)) =
    ap (λ (l : List ℕ). padded (without_cr l)) (sym (append-nil (take 81 (x ∷ p)))) ∙ padded_cut (x ∷ p) []
    ∙ ap (λ (l : List ℕ). padded (without_cr l)) (append-nil (x ∷ p)) in
    ap (lines_of unended place) (fronted_last x (take 80 p)) ∙ line_cut unended place (take 81 (x ∷ p)) (x ∷ p) [] same
    ∙ sym (ap (lines_of unended place) (fronted_last x p))

-- ---- bytes that end without a line end

-- the bytes behind others decide, if there are any
pub open_behind : (p : List ℕ) (y : ℕ) (ys : List ℕ) → is_open (p ++ y ∷ ys) ≡ is_open (y ∷ ys)
open_behind [] y ys = refl
open_behind (x ∷ []) y ys = refl
open_behind (x ∷ z ∷ p) y ys = open_behind (z ∷ p) y ys

pub open_plain : (x : ℕ) (p : List ℕ) → ends (x ∷ p) ≡ false → is_open (x ∷ p) ≡ true
open_plain x [] h =
    let parts = ends_cons x [] h in
    rw parts.0 refl
open_plain x (y ∷ p) h =
    let parts = ends_cons x (y ∷ p) h in
    open_plain y p parts.1

open_cut : (p q : List ℕ) → ends p ≡ false → is_open (take 81 p ++ q) ≡ is_open (p ++ q)
open_cut p (y ∷ ys) h = open_behind (take 81 p) y ys ∙ sym (open_behind p y ys)
open_cut [] [] h = refl
open_cut (x ∷ p) [] h =
    ap is_open (append-nil (take 81 (x ∷ p))) ∙ open_plain x (take 80 p) (ends_take 81 (x ∷ p) h)
    ∙ sym (ap is_open (append-nil (x ∷ p)) ∙ open_plain x p h)

-- of a line that has not ended the first 81 bytes decide, whatever follows
pub text_cut : (place : Place) (p q : List ℕ) → ends p ≡ false → text_from place (take 81 p ++ q) ≡ text_from place (p ++ q)
text_cut place p q h =
    let unended : Bool = is_open (p ++ q) in
    ap (λ (b : Bool). with_ends (lines_of b place (pieces false (take 81 p ++ q)))) (open_cut p q h)
    ∙ ap (λ (ps : List (List ℕ)). with_ends (lines_of unended place ps)) (pieces_fronted (take 81 p) q (ends_take 81 p h))
    ∙ ap with_ends (fronted_cut unended place p (pieces false q))
    ∙ sym (ap (λ (ps : List (List ℕ)). with_ends (lines_of unended place ps)) (pieces_fronted p q h))
