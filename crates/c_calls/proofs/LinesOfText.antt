-- The lines of a text, one after another, as far as a record looks at them.
use Rattle.std.proofs.Common.{◌≡◌, ◌+◌, ◌<◌, ◌≤◌, ◌==◌, ◌++◌, ℕ, zero, suc, nat_lt, Bool, true, false, List, [], ◌∷◌, length, take, drop, map, refl, sym, ap, ◌∙◌, arith, length-drop, length-take}
use Rattle.std.specs.Prelude.{if◌then◌else◌}
use Rattle.std.proofs.lemmas.List.{take-append-drop, take_all, length-map, map-append}
use Rattle.std.proofs.lemmas.Bool.{eqb-true, lt-ltb}
use Rattle.nav_io.specs.Lines.{ends, pieces, without_cr}
use Rattle.nav_io.specs.Mirrors.{EndsAt}
use Rattle.nav_io.proofs.Surface.{pieces-line}
use Rattle.rinex_read.specs.Kept.{kept_with, padded}
use Rattle.rinex_read.specs.Lines.{lines_of}

-- ---- a line

-- one that has an end
pub line_first : (text line : List ℕ) (n : ℕ) → EndsAt text n → line ≡ without_cr (take n text) → lines_of text ≡ line ∷ lines_of (drop (n + 1) text)
line_first text line n h is =
    let cut : text ≡ take n text ++ 10 ∷ drop (n + 1) text = sym (take-append-drop n text) ∙ ap (λ (l : List ℕ). take n text ++ l) h.at in
    ap lines_of cut ∙ ap (λ (ls : List (List ℕ)). map without_cr ls) (pieces-line false (take n text) (drop (n + 1) text) h.none)
    ∙ ap (λ (l : List ℕ). l ∷ lines_of (drop (n + 1) text)) (sym is)

no_end : (b e : Bool) → (if b then true else e) ≡ false → (b ≡ false) × (e ≡ false)
no_end true e h = absurd cc
no_end false e h = (refl, h)

pieces-last : (x : ℕ) (p : List ℕ) → ends (x ∷ p) ≡ false → pieces false (x ∷ p) ≡ (x ∷ p) ∷ []
pieces-last x [] h = rw (no_end (x == 10) false h).0 refl
pieces-last x (y ∷ p) h =
    let parts = no_end (x == 10) (ends (y ∷ p)) h in
    rw (parts.0, pieces-last y p parts.1) refl

last_line : (text : List ℕ) → ends text ≡ false → 0 < length text → pieces false text ≡ text ∷ []
last_line [] none some = absurd (omega arith)
last_line (x ∷ text) none some = pieces-last x text none

-- the last one, which has none
pub line_last : (text line : List ℕ) → ends text ≡ false → 0 < length text → line ≡ without_cr text → lines_of text ≡ line ∷ []
line_last text line none some is =
    ap (λ (ls : List (List ℕ)). map without_cr ls) (last_line text none some) ∙ ap (λ (l : List ℕ). l ∷ []) (sym is)

-- ---- lines that are kept

take_next : (k : ℕ) (all : List (List ℕ)) (line : List ℕ) (more : List (List ℕ)) → drop k all ≡ line ∷ more → take (suc k) all ≡ take k all ++ line ∷ []
take_next zero all line more e = ap (take 1) e
take_next (suc k) [] line more e = absurd cc
take_next (suc k) (x ∷ all) line more e = ap (λ (l : List (List ℕ)). x ∷ l) (take_next k all line more e)

drop_next : (k : ℕ) (all : List (List ℕ)) (line : List ℕ) (more : List (List ℕ)) → drop k all ≡ line ∷ more → drop (suc k) all ≡ more
drop_next zero all line more e = ap (drop 1) e
drop_next (suc k) [] line more e = absurd cc
drop_next (suc k) (x ∷ all) line more e = drop_next k all line more e

-- one more is kept
pub next_kept : (all kept : List (List ℕ)) (k : ℕ) (line : List ℕ) (more : List (List ℕ)) → k < 18 → kept ≡ map padded (take k all) → drop k all ≡ line ∷ more
    → kept_with kept line ≡ map padded (take (k + 1) all)
next_kept all kept k line more few is e =
    let short : nat_lt (length (map padded (take k all))) 18 ≡ true =
    lt-ltb (length (map padded (take k all))) 18 (omega (arith, length-map (take k all) padded, length-take k all)) in
    let next : suc k ≡ k + 1 = omega arith in
    ap (λ (ks : List (List ℕ)). kept_with ks line) is
    ∙ ap (λ (b : Bool). if b then map padded (take k all) ++ padded line ∷ [] else map padded (take k all)) short
    ∙ sym (map-append padded (take k all) (line ∷ []))
    ∙ ap (map padded) (sym (take_next k all line more e) ∙ ap (λ (n : ℕ). take n all) next)

-- and the lines behind it are left
pub next_rest : (all : List (List ℕ)) (k : ℕ) (line : List ℕ) (more : List (List ℕ)) → drop k all ≡ line ∷ more → more ≡ drop (k + 1) all
next_rest all k line more e =
    let next : suc k ≡ k + 1 = omega arith in
    sym (drop_next k all line more e) ∙ ap (λ (n : ℕ). drop n all) next

-- no line is left
pub none_left : (all kept : List (List ℕ)) (k : ℕ) (rest : List ℕ) → k < 18 → kept ≡ map padded (take k all) → lines_of rest ≡ drop k all → true ≡ (length rest == 0)
    → kept ≡ map padded (take 18 all)
none_left all kept k [] few is left e =
    let none : length (drop k all) ≡ 0 = ap length (sym left) in
    let short : length all ≤ k = omega (arith, none, length-drop k all) in
    is ∙ ap (map padded) (take_all k all short ∙ sym (take_all 18 all (omega arith)))
none_left all kept k (x ∷ rest) few is left e = absurd (omega (arith, eqb-true (length (x ∷ rest)) 0 (sym e)))
