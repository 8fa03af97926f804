-- The label of the last line of a header, in columns 61 to 73.
use Rattle.std.proofs.Common.{◌≡◌, ◌↔◌, ◌==◌, ◌+◌, ◌-◌, ◌<◌, ◌≤◌, ◌&&◌, ◌++◌, ℕ, zero, suc, Bool, true, false, IsTrue, List, [], ◌∷◌, length, take, drop, get_or, codes, refl, sym, ap, ◌∙◌, arith, length-drop, length-take}
use Rattle.std.proofs.lemmas.Bool.{eq-eqb, eqb-true}
use Rattle.rinex_read.specs.Lines.{stands_at}
use Rattle.rinex_read.specs.Files.{ends_header}

both : (a b : Bool) → (a && b) ≡ true → (a ≡ true) × (b ≡ true)
both true b e = (refl, e)
both false b e = absurd (let h : false ≡ true = e in cc)

get_then : (a : ℕ) (line : List ℕ) (d : ℕ) → a < length line → drop a line ≡ get_or line a d ∷ drop (suc a) line
get_then zero [] d h = absurd (omega (arith, h))
get_then zero (x ∷ line) d h = refl
get_then (suc a) [] d h = absurd (omega (arith, h))
get_then (suc a) (x ∷ line) d h = get_then a line d (omega (arith, h))

get_first : (a : ℕ) (line : List ℕ) (d : ℕ) → a < length line → drop a line ≡ get_or line a d ∷ drop (a + 1) line
get_first a line d h =
    let next : suc a ≡ a + 1 = omega arith in
    get_then a line d h ∙ ap (λ (m : ℕ). get_or line a d ∷ drop m line) next

past_end : (a : ℕ) (line : List ℕ) (d : ℕ) → length line ≤ a → get_or line a d ≡ d
past_end a [] d h = refl
past_end zero (x ∷ line) d h = absurd (omega (arith, h))
past_end (suc a) (x ∷ line) d h = past_end a line d (omega (arith, h))

-- a text that is there
stands_if : (a : ℕ) (text line : List ℕ) → a + length text ≤ length line → take (length text) (drop a line) ≡ text → stands_at a text line ≡ true
unfolding stands_at
stands_if a [] line fits is = refl
stands_if a (c ∷ cs) line fits is =
    let one : length (c ∷ cs) ≡ suc (length cs) = refl in
    let first = get_first a line 32 (omega (arith, fits, one)) in
    let split : get_or line a 32 ∷ take (length cs) (drop (a + 1) line) ≡ c ∷ cs = ap (take (suc (length cs))) (sym first) ∙ is in
    let head : get_or line a 32 ≡ c = ap (λ (l : List ℕ). get_or l 0 0) split in
    ap (λ (b : Bool). b && stands_at (a + 1) cs line) (eq-eqb (get_or line a 32) c head)
    ∙ stands_if (a + 1) cs line (omega (arith, fits, one)) (ap (drop 1) split)

stands_only : (a : ℕ) (text line : List ℕ) → a + length text ≤ length line → stands_at a text line ≡ true → take (length text) (drop a line) ≡ text
unfolding stands_at
stands_only a [] line fits is = refl
stands_only a (c ∷ cs) line fits is =
    let one : length (c ∷ cs) ≡ suc (length cs) = refl in
    let parts = both (get_or line a 32 == c) (stands_at (a + 1) cs line) is in
    ap (take (suc (length cs))) (get_first a line 32 (omega (arith, fits, one)))
    ∙ ap (λ (x : ℕ). x ∷ take (length cs) (drop (a + 1) line)) (eqb-true (get_or line a 32) c parts.0)
    ∙ ap (λ (l : List ℕ). c ∷ l) (stands_only (a + 1) cs line (omega (arith, fits, one)) parts.1)

same_truth : (a b : Bool) → (a ≡ true → b ≡ true) → (b ≡ true → a ≡ true) → a ≡ b
same_truth true b f g = sym (f refl)
same_truth false true f g = g refl
same_truth false false f g = refl

pub label_is : (line : List ℕ) (result : Bool) → 73 ≤ length line → (IsTrue result ↔ (take 13 (drop 60 line) ≡ codes "END OF HEADER")) → result ≡ ends_header line
unfolding ends_header
label_is line result fits iff =
    same_truth result (stands_at 60 (codes "END OF HEADER") line)
    (λ e. stands_if 60 (codes "END OF HEADER") line fits (iff.0 e))
    (λ e. iff.1 (stands_only 60 (codes "END OF HEADER") line fits e))

-- a shorter line has blanks where the label ends
last_of : (a n : ℕ) (text line : List ℕ) → stands_at a text line ≡ true → n < length text → get_or line (a + n) 32 ≡ get_or text n 32
unfolding stands_at
last_of a n [] line is h = absurd (omega (arith, h))
last_of a zero (c ∷ cs) line is h =
    let same : a + 0 ≡ a = omega arith in
    ap (λ (m : ℕ). get_or line m 32) same ∙ eqb-true (get_or line a 32) c (both (get_or line a 32 == c) (stands_at (a + 1) cs line) is).0
last_of a (suc n) (c ∷ cs) line is h =
    let sum : a + suc n ≡ a + 1 + n = omega arith in
    ap (λ (m : ℕ). get_or line m 32) sum ∙ last_of (a + 1) n cs line (both (get_or line a 32 == c) (stands_at (a + 1) cs line) is).1 (omega (arith, h))

false_unless : (b : Bool) → (b ≡ true → ⊥) → b ≡ false
false_unless true f = absurd (f refl)
false_unless false f = refl

pub short_is : (line : List ℕ) → length line < 73 → ends_header line ≡ false
unfolding ends_header
short_is line short =
    false_unless (stands_at 60 (codes "END OF HEADER") line) (λ is.
    let blank : 32 ≡ 82 = sym (past_end 72 line 32 (omega (arith, short))) ∙ last_of 60 12 (codes "END OF HEADER") line is (omega arith) in
    absurd (omega (arith, blank)))
