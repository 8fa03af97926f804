-- The number of lines.
use Rattle.std.proofs.Common.{◌≡◌, ℕ, zero, suc, ◌+◌, ◌-◌, ◌*◌, ◌/◌, ◌%◌, Bool, true, false, nat_eq, if◌then◌else◌, List, [], ◌∷◌, length, take, drop, reverse, min, refl, ap, ◌∙◌, eqb-true, arith}
use Rattle.std.proofs.lemmas.Bool.{eqb-false}
use Rattle.std.proofs.lemmas.List.{length-append, length-reverse, length-take, length-drop}
use Rattle.nav_eph.specs.declared.signal.Signal.TheVariants.{E1b, E5b}
use Rattle.sent_captures.specs.declared.sending.Sending.{Sending}
use Rattle.sent_captures.specs.declared.sending.Sending.TheVariants.{Subframe, Half}
use Rattle.sent_captures.specs.Lines.{subframes_at, halves_at, sent_at, sent_before}
use Rattle.sent_captures.specs.Capture.{reversed_blocks, reversed, lines_of}

count_subframes : (stamp n : ℕ) → length (subframes_at stamp n) ≡ n
unfolding subframes_at
count_subframes stamp zero = refl
count_subframes stamp (suc n) = length-append (subframes_at stamp n) (Subframe stamp (suc n) ∷ []) ∙ omega (arith, count_subframes stamp n)

count_halves : (stamp n : ℕ) → length (halves_at stamp n) ≡ 2 * n
unfolding halves_at
count_halves stamp zero = refl
count_halves stamp (suc n) = length-append (halves_at stamp n) (Half stamp (suc n) E1b ∷ Half stamp (suc n) E5b ∷ []) ∙ omega (arith, count_halves stamp n)

-- of the subframes, if some are sent
count_some : (n stamp : ℕ) (b : Bool) → length (if b then subframes_at stamp n else []) ≡ (if b then n else 0)
count_some n stamp true = count_subframes stamp n
count_some n stamp false = refl

count_at : (n stamp : ℕ) → length (sent_at n stamp) ≡ (if nat_eq (stamp % 6) 0 then n else 0) + 2 * n
unfolding sent_at
count_at n stamp =
    length-append (if nat_eq (stamp % 6) 0 then subframes_at stamp n else []) (halves_at stamp n)
    ∙ omega (arith, count_some n stamp (nat_eq (stamp % 6) 0), count_halves stamp n)

-- one more stamp
step : (n stamp before at : ℕ) (b : Bool) → nat_eq (stamp % 6) 0 ≡ b → before ≡ n * ((stamp + 5) / 6) + 2 * (n * stamp) → at ≡ (if b then n else 0) + 2 * n
    → before + at ≡ n * ((suc stamp + 5) / 6) + 2 * (n * suc stamp)
step n stamp before at true is e f =
    let zeroth : stamp % 6 ≡ 0 = eqb-true (stamp % 6) 0 is in
    let turn : (suc stamp + 5) / 6 ≡ (stamp + 5) / 6 + 1 = omega arith in
    omega (arith, ap (λ x. n * x) turn)
step n stamp before at false is e f =
    let other : stamp % 6 ≡ 0 → ⊥ = eqb-false (stamp % 6) 0 is in
    let turn : (suc stamp + 5) / 6 ≡ (stamp + 5) / 6 = omega arith in
    omega (arith, ap (λ x. n * x) turn)

pub count_before : (n end : ℕ) → length (sent_before n end) ≡ n * ((end + 5) / 6) + 2 * (n * end)
unfolding sent_before
count_before n zero = omega arith
count_before n (suc stamp) =
    length-append (sent_before n stamp) (sent_at n stamp)
    ∙ step n stamp (length (sent_before n stamp)) (length (sent_at n stamp)) (nat_eq (stamp % 6) 0) refl (count_before n stamp) (count_at n stamp)

count_blocks : (xs : List Sending) (k : ℕ) → length (reversed_blocks xs k) ≡ min (16 * k) (length xs)
unfolding reversed_blocks
count_blocks xs zero = omega arith
count_blocks xs (suc k) =
    let block : length (reverse (take 16 (drop (16 * k) xs))) ≡ min 16 (length xs - 16 * k) =
    length-reverse (take 16 (drop (16 * k) xs)) ∙ length-take 16 (drop (16 * k) xs) ∙ ap (min 16) (length-drop (16 * k) xs) in
    length-append (reversed_blocks xs k) (reverse (take 16 (drop (16 * k) xs))) ∙ omega (arith, count_blocks xs k, block)

count_reversed : (xs : List Sending) → length (reversed xs) ≡ length xs
unfolding reversed
count_reversed xs = count_blocks xs ((length xs + 15) / 16) ∙ omega arith

-- 600 subframes and 7,200 page parts of each satellite in the hour, and 5 and 60 in its first 30 seconds
pub count_lines : (n : ℕ) → length (lines_of n) ≡ 7865 * n
unfolding lines_of
count_lines n =
    length-append (reversed (sent_before n 3600)) (sent_before n 30)
    ∙ omega (arith, count_reversed (sent_before n 3600), count_before n 3600, count_before n 30)
