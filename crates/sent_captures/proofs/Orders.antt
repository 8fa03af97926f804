-- The orders of transmissions.
use Rattle.std.proofs.Common.{◌≡◌, ℕ, zero, suc, ◌+◌, ◌-◌, ◌*◌, ◌/◌, ◌<◌, ◌≤◌, true, false, List, [], ◌∷◌, ◌++◌, All, length, get_or, take, drop, reverse, nat_eq, min, if◌then◌else◌, ◌%◌, ap, sym, ◌∙◌, subst, arith}
use Rattle.std.proofs.lemmas.List.{drop_more, reverse-append, length-reverse, length-drop, take_min, get_or-reverse}
use Rattle.std.proofs.lemmas.List.Elements.{All-append, All-nil, All-push, All-take, All-drop}
use Rattle.sent_captures.specs.declared.sending.Sending.{Sending}
use Rattle.sent_captures.specs.declared.sending.Sending.TheVariants.{Subframe, Half}
use Rattle.nav_eph.specs.declared.signal.Signal.TheVariants.{E1b, E5b}
use Rattle.sent_captures.specs.Lines.{subframes_at, halves_at, sent_at, sent_before}
use Rattle.sent_captures.specs.Capture.{reversed_blocks, reversed, lines_of}
use Rattle.sent_captures.specs.Mirrors.{IsOf}

-- reversing the last elements, one more of them
pub reverse_more : (xs : List Sending) (i : ℕ) (d : Sending) → i < length xs
    → reverse (drop (length xs - i) xs) ++ get_or xs (length xs - 1 - i) d ∷ [] ≡ reverse (drop (length xs - (i + 1)) xs)
reverse_more xs i d h =
    let first : length xs - (i + 1) < length xs = omega arith in
    let place : length xs - 1 - i ≡ length xs - (i + 1) = omega arith in
    let behind : length xs - (i + 1) + 1 ≡ length xs - i = omega arith in
    let cut : drop (length xs - (i + 1)) xs ≡ get_or xs (length xs - 1 - i) d ∷ drop (length xs - i) xs =
    drop_more xs (length xs - (i + 1)) d first ∙ ap (λ p. get_or xs p d ∷ drop (length xs - (i + 1) + 1) xs) (sym place) ∙ ap (λ p. get_or xs (length xs - 1 - i) d ∷ drop p xs) behind in
    sym (ap reverse cut ∙ reverse-append (get_or xs (length xs - 1 - i) d ∷ []) (drop (length xs - i) xs))

All-reverse : (P : Sending → Type 0) (xs : List Sending) → All P xs → All P (reverse xs)
All-reverse P xs all k d low =
    let inside : k < length xs = omega (arith, low, length-reverse xs) in
    subst P (sym (get_or-reverse xs k d inside)) (all (length xs - 1 - k) d (omega arith))

-- the numbers of the satellites
pub subframes_of : (n stamp k : ℕ) → stamp < 3600 → k ≤ n → All (IsOf n) (subframes_at stamp k)
unfolding subframes_at
subframes_of n stamp zero early few = All-nil (IsOf n)
subframes_of n stamp (suc k) early few =
    All-push (IsOf n) (subframes_at stamp k) (Subframe stamp (suc k)) (subframes_of n stamp k early (omega arith)) (early, omega arith, omega arith)

pub halves_of : (n stamp k : ℕ) → stamp < 3600 → k ≤ n → All (IsOf n) (halves_at stamp k)
unfolding halves_at
halves_of n stamp zero early few = All-nil (IsOf n)
halves_of n stamp (suc k) early few =
    All-append (IsOf n) (halves_at stamp k) (Half stamp (suc k) E1b ∷ Half stamp (suc k) E5b ∷ []) (halves_of n stamp k early (omega arith))
    (All-push (IsOf n) (Half stamp (suc k) E1b ∷ []) (Half stamp (suc k) E5b) (All-push (IsOf n) [] (Half stamp (suc k) E1b) (All-nil (IsOf n)) (early, omega arith, omega arith)) (early, omega arith, omega arith))

pub sent_of : (n stamp : ℕ) → stamp < 3600 → All (IsOf n) (sent_at n stamp)
unfolding sent_at
sent_of n stamp early =
    All-append (IsOf n) _ (halves_at stamp n)
    (elim (nat_eq (stamp % 6) 0) as (λ b. All (IsOf n) (if b then subframes_at stamp n else [])) [ true ↦ subframes_of n stamp n early (omega arith) | false ↦ All-nil (IsOf n) ])
    (halves_of n stamp n early (omega arith))

pub before_of : (n end : ℕ) → end ≤ 3600 → All (IsOf n) (sent_before n end)
unfolding sent_before
before_of n zero short = All-nil (IsOf n)
before_of n (suc stamp) short = All-append (IsOf n) (sent_before n stamp) (sent_at n stamp) (before_of n stamp (omega arith)) (sent_of n stamp (omega arith))

blocks_of : (n : ℕ) (xs : List Sending) (k : ℕ) → All (IsOf n) xs → All (IsOf n) (reversed_blocks xs k)
unfolding reversed_blocks
blocks_of n xs zero all = All-nil (IsOf n)
blocks_of n xs (suc k) all =
    All-append (IsOf n) (reversed_blocks xs k) (reverse (take 16 (drop (16 * k) xs))) (blocks_of n xs k all)
    (All-reverse (IsOf n) (take 16 (drop (16 * k) xs)) (All-take (IsOf n) 16 (drop (16 * k) xs) (All-drop (IsOf n) (16 * k) xs all)))

-- each line is a transmission of a satellite within the hour
pub lines_are_of : (n : ℕ) → All (IsOf n) (lines_of n)
unfolding lines_of reversed
lines_are_of n =
    All-append (IsOf n) (reversed (sent_before n 3600)) (sent_before n 30)
    (blocks_of n (sent_before n 3600) ((length (sent_before n 3600) + 15) / 16) (before_of n 3600 (omega arith)))
    (before_of n 30 (omega arith))

-- the elements of a block up to the end of the list
pub block_is : (xs : List Sending) (k : ℕ) → 16 * k < length xs → take (min (16 * k + 16) (length xs) - 16 * k) (drop (16 * k) xs) ≡ take 16 (drop (16 * k) xs)
block_is xs k inside =
    let rest : length (drop (16 * k) xs) ≡ length xs - 16 * k = length-drop (16 * k) xs in
    let size : min (16 * k + 16) (length xs) - 16 * k ≡ min 16 (length (drop (16 * k) xs)) = omega arith in
    ap (λ n. take n (drop (16 * k) xs)) size ∙ take_min 16 (drop (16 * k) xs)

-- one more block
pub blocks_more : (xs : List Sending) (k : ℕ) → reversed_blocks xs (k + 1) ≡ reversed_blocks xs k ++ reverse (take 16 (drop (16 * k) xs))
unfolding reversed_blocks
blocks_more xs k = let e : k + 1 ≡ suc k = omega arith in ap (reversed_blocks xs) e
