use Rattle.std.proofs.Common.{◌≡◌, ℕ, zero, suc, get_or, ◌-◌, ◌<◌, ◌≤◌, ◌++◌, [], ◌∷◌, List, length, map, take, drop, refl, ap, ◌∙◌, arith, length-append, length-take, length-drop, append-nil}
use Rattle.std.proofs.lemmas.List.{take_all, drop_all, length-map}
use Rattle.std.proofs.lemmas.List.Edits.{map_over_more}
use Rattle.lnav_subframe.proofs.words.inverted.Goals as goal

same_long : (f : ℕ → ℕ) (xs ys : List ℕ) (i : ℕ) → ys ≡ map f (take i xs) ++ drop i xs → length ys ≡ length xs
same_long f xs ys i e = ap length e ∙ rw (length-append (map f (take i xs)) (drop i xs), length-map (take i xs) f, length-take i xs, length-drop i xs) (omega arith)

all_over : (f : ℕ → ℕ) (xs ys : List ℕ) (i : ℕ) → ys ≡ map f (take i xs) ++ drop i xs → length ys ≤ i → ys ≡ map f xs
all_over f xs ys i e h =
    let long : length xs ≤ i = omega (arith, same_long f xs ys i e) in
    e ∙ rw (take_all i xs long, drop_all i xs long) (append-nil (map f xs))

same_any : (xs : List ℕ) (i d e : ℕ) → i < length xs → get_or xs i d ≡ get_or xs i e
same_any [] i d e h = absurd (omega arith)
same_any (x ∷ xs) zero d e h = refl
same_any (x ∷ xs) (suc i) d e h = same_any xs i d e (omega arith)

pub loop-byte-preserved : goal.loop-byte-preserved
loop-byte-preserved c =
    let long : length c.loop-byte.byte-items ≡ length c.bytes.result.now = same_long (λ byte. 255 - byte) c.bytes.result.now c.loop-byte.byte-items c.loop-byte.byte-index c.loop-byte.invariant in
    map_over_more (λ byte. 255 - byte) c.bytes.result.now c.loop-byte.byte-items c.loop-byte.byte-index (get_or c.loop-byte.byte-items c.loop-byte.byte-index 0) (omega (arith, long)) c.loop-byte.invariant
    (same_any c.loop-byte.byte-items c.loop-byte.byte-index 0 _ (omega arith))

pub returns : goal.returns
returns c =
    c.from_bytes.ensures ∙ all_over (λ byte. 255 - byte) c.bytes.result.now c.loop-byte.byte-items c.loop-byte.byte-index c.loop-byte.invariant (omega arith)
    ∙ ap (map (λ byte. 255 - byte)) c.bytes.ensures
