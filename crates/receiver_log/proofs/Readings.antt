-- At most one reading of a subframe's words has right parity, and it is what was sent.
use Rattle.std.proofs.Common.{◌≡◌, ℕ, ◌%◌, inl, inr, nat_eq, Bool, true, false, cond}
use Rattle.std.proofs.Common.{List, [], ◌∷◌, refl, sym, ap, subst, ◌∙◌}
use Rattle.std.proofs.lemmas.Bool.{and_parts, both_ways}
use Rattle.std.specs.Int.Bits.{bit_xor, xor_assoc, xor_self, xor_zero_r}
use Rattle.lnav_subframe.specs.Parity.{IsGood}
use Rattle.lnav_subframe.specs.ParityFunctions.{is_good}
use Rattle.lnav_subframe.proofs.Surface.{good-decides}
use Rattle.receiver_log.specs.Words.{reading_behind, reading, are_good_behind, are_good}
use Rattle.receiver_log.specs.Words.{data_mask, whole_mask, read_words}
use Rattle.receiver_log.specs.Readings.{IsMask, logged_behind, logged}
use Rattle.receiver_log.proofs.Turns.{parity_mask, not_both_whole, not_both_data}
use Rattle.receiver_log.proofs.Turns.{not_both_parity}

good : (word last : ℕ) → is_good word last ≡ true → IsGood word last
good word last e = (good-decides word last).0 e

-- inverting twice changes nothing
twice : (w m : ℕ) → bit_xor (bit_xor w m) m ≡ w
twice w m = xor_assoc w m m ∙ ap (bit_xor w) (xor_self m) ∙ xor_zero_r w

from_none : (w m last : ℕ) → IsGood (bit_xor w 0) last → IsGood (bit_xor w m) last
    → ((u : ℕ) → IsGood u last → IsGood (bit_xor u m) last → ⊥) → bit_xor w 0 ≡ bit_xor w m
from_none w m last a b never = absurd (never w (subst (λ u. IsGood u last) (xor_zero_r w) a) b)

from_data : (w last : ℕ) → IsGood (bit_xor w data_mask) last → IsGood (bit_xor w whole_mask) last
    → ⊥
from_data w last a b =
    let split : bit_xor (bit_xor w data_mask) parity_mask ≡ bit_xor w whole_mask =
    xor_assoc w data_mask parity_mask in
    not_both_parity (bit_xor w data_mask) last a (subst (λ u. IsGood u last) (sym split) b)

-- a word with right parity by two masks is the same by both
one_inverted : (w a b last : ℕ) → IsMask a → IsMask b → is_good (bit_xor w a) last ≡ true
    → is_good (bit_xor w b) last ≡ true → bit_xor w a ≡ bit_xor w b
one_inverted w a b last (inl x) (inl y) g h = ap (bit_xor w) (x ∙ sym y)
one_inverted w a b last (inl x) (inr (inl y)) g h =
    rw (x, y) (from_none w data_mask last (good _ last (rw x at g)) (good _ last (rw y at h))
    (λ u. not_both_data u last))
one_inverted w a b last (inl x) (inr (inr y)) g h =
    rw (x, y) (from_none w whole_mask last (good _ last (rw x at g)) (good _ last (rw y at h))
    (λ u. not_both_whole u last))
one_inverted w a b last (inr (inl x)) (inl y) g h =
    rw (x, y) (sym (from_none w data_mask last (good _ last (rw y at h)) (good _ last (rw x at g))
    (λ u. not_both_data u last)))
one_inverted w a b last (inr (inr x)) (inl y) g h =
    rw (x, y) (sym (from_none w whole_mask last (good _ last (rw y at h)) (good _ last (rw x at g))
    (λ u. not_both_whole u last)))
one_inverted w a b last (inr (inl x)) (inr (inl y)) g h = ap (bit_xor w) (x ∙ sym y)
one_inverted w a b last (inr (inr x)) (inr (inr y)) g h = ap (bit_xor w) (x ∙ sym y)
one_inverted w a b last (inr (inl x)) (inr (inr y)) g h =
    absurd (from_data w last (good _ last (rw x at g)) (good _ last (rw y at h)))
one_inverted w a b last (inr (inr x)) (inr (inl y)) g h =
    absurd (from_data w last (good _ last (rw y at h)) (good _ last (rw x at g)))

one_at : (w a b last : ℕ) → IsMask a → IsMask b → (odd : Bool) → nat_eq (last % 2) 1 ≡ odd
    → is_good (cond (nat_eq (last % 2) 1) (bit_xor w a) w) (last % 4) ≡ true
    → is_good (cond (nat_eq (last % 2) 1) (bit_xor w b) w) (last % 4) ≡ true
    → cond (nat_eq (last % 2) 1) (bit_xor w a) w ≡ cond (nat_eq (last % 2) 1) (bit_xor w b) w
one_at w a b last x y true e g h = rw e (one_inverted w a b (last % 4) x y (rw e at g) (rw e at h))
one_at w a b last x y false e g h = rw e refl

one_behind : (a b last : ℕ) (words : List ℕ) → IsMask a → IsMask b
    → are_good_behind last (reading_behind a last words) ≡ true
    → are_good_behind last (reading_behind b last words) ≡ true
    → reading_behind a last words ≡ reading_behind b last words
one_behind a b last [] x y g h = refl
one_behind a b last (w ∷ ws) x y g h =
    let r : ℕ = cond (nat_eq (last % 2) 1) (bit_xor w a) w in
    let s : ℕ = cond (nat_eq (last % 2) 1) (bit_xor w b) w in
    let p = and_parts (is_good (cond (nat_eq (last % 2) 1) (bit_xor w a) w) (last % 4))
    (are_good_behind r (reading_behind a r ws)) g in
    let q = and_parts (is_good (cond (nat_eq (last % 2) 1) (bit_xor w b) w) (last % 4))
    (are_good_behind s (reading_behind b s ws)) h in
    let same : cond (nat_eq (last % 2) 1) (bit_xor w a) w
    ≡ cond (nat_eq (last % 2) 1) (bit_xor w b) w = one_at w a b last x y _ refl p.0 q.0 in
    let rest : are_good_behind r (reading_behind b r ws) ≡ true =
    subst (λ n. are_good_behind n (reading_behind b n ws) ≡ true) (sym same) q.1 in
    ap (λ xs. r ∷ xs) (one_behind a b r ws x y p.1 rest) ∙ ap (λ n. n ∷ reading_behind b n ws) same

-- at most one reading has right parity
pub one_reading : (words : List ℕ) (a b : ℕ) → IsMask a → IsMask b
    → are_good (reading a words) ≡ true → are_good (reading b words) ≡ true
    → reading a words ≡ reading b words
one_reading words a b x y g h = one_behind a b 0 words x y g h

read_at : (w m last : ℕ) → (odd : Bool) → nat_eq (last % 2) 1 ≡ odd
    → cond (nat_eq (last % 2) 1) (bit_xor (cond (nat_eq (last % 2) 1) (bit_xor w m) w) m)
    (cond (nat_eq (last % 2) 1) (bit_xor w m) w) ≡ w
read_at w m last true e = rw e (twice w m)
read_at w m last false e = rw e refl

read_behind : (m last : ℕ) (sent : List ℕ)
    → reading_behind m last (logged_behind m last sent) ≡ sent
read_behind m last [] = refl
read_behind m last (w ∷ ws) =
    let same = read_at w m last _ refl in
    ap (λ n. n ∷ reading_behind m n (logged_behind m w ws)) same
    ∙ ap (λ xs. w ∷ xs) (read_behind m w ws)

-- reading by the mask of logging gives what was sent
pub reading_of_logged : (m : ℕ) (sent : List ℕ) → reading m (logged m sent) ≡ sent
reading_of_logged m sent = read_behind m 0 sent

none_at : (w last : ℕ) → (odd : Bool) → nat_eq (last % 2) 1 ≡ odd
    → cond (nat_eq (last % 2) 1) (bit_xor w 0) w ≡ w
none_at w last true e = rw e (xor_zero_r w)
none_at w last false e = rw e refl

none_behind : (last : ℕ) (words : List ℕ) → reading_behind 0 last words ≡ words
none_behind last [] = refl
none_behind last (w ∷ ws) =
    ap (λ n. n ∷ reading_behind 0 n ws) (none_at w last _ refl)
    ∙ ap (λ xs. w ∷ xs) (none_behind w ws)

-- reading by mask 0 leaves the words
pub reading_none : (words : List ℕ) → reading 0 words ≡ words
reading_none words = none_behind 0 words

choose : (words : List ℕ) (m : ℕ) → IsMask m → are_good (reading m words) ≡ true
    → (first second third : Bool) → are_good words ≡ first
    → are_good (reading data_mask words) ≡ second → are_good (reading whole_mask words) ≡ third
    → read_words words ≡ reading m words
unfolding read_words
choose words m mask g true second third e f h =
    rw e (sym (reading_none words) ∙ one_reading words 0 m (inl refl) mask
    (ap are_good (reading_none words) ∙ e) g)
choose words m mask g false true third e f h =
    rw (e, f) (one_reading words data_mask m (inr (inl refl)) mask f g)
choose words m mask g false false true e f h =
    rw (e, f, h) (one_reading words whole_mask m (inr (inr refl)) mask h g)
choose words (m) (inl x) g false false false e f h =
    absurd (both_ways _ e (ap are_good (sym (reading_none words)
    ∙ ap (λ n. reading n words) (sym x)) ∙ g))
choose words m (inr (inl x)) g false false false e f h =
    absurd (both_ways _ f (ap (λ n. are_good (reading n words)) (sym x) ∙ g))
choose words m (inr (inr x)) g false false false e f h =
    absurd (both_ways _ h (ap (λ n. are_good (reading n words)) (sym x) ∙ g))

-- a reading with right parity is what `read_words` gives
pub good_is_read : (words : List ℕ) (m : ℕ) → IsMask m → are_good (reading m words) ≡ true
    → read_words words ≡ reading m words
good_is_read words m mask g = choose words m mask g _ _ _ refl refl refl

-- so is what was sent, in whichever form it was logged
pub sent_is_read : (sent : List ℕ) (m : ℕ) → IsMask m → are_good sent ≡ true
    → read_words (logged m sent) ≡ sent
sent_is_read sent m mask g =
    let back = reading_of_logged m sent in
    good_is_read (logged m sent) m mask (ap are_good back ∙ g) ∙ back
