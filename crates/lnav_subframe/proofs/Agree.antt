-- Two readings of the same words have the same data bits, except for the last two of words 2 and 10.
use Rattle.std.proofs.Common.{◌≡◌, ℕ, zero, suc, ◌+◌, ◌-◌, ◌*◌, ◌/◌, ◌%◌, ◌^◌, ◌<◌, List, Bool, true, false, nat_eq, nat_le, nat_lt, refl, sym, ap, ◌∙◌, arith, below_more}
use Rattle.std.proofs.lemmas.Bool.{leb-true, ltb-true, eqb-true, eqb-false}
use Rattle.std.proofs.lemmas.Nat.Bits.{bit_at-lt}
use Rattle.nav_bits.specs.Bits.{bit, number_at, SameInside}
use Rattle.nav_bits.specs.Laws.{bit-lt, number_at-append, number_at-lt, number_at-same}
use Rattle.lnav_subframe.specs.Parity.{IsGood, IsSource, IsSolved}
use Rattle.lnav_subframe.proofs.ParityWords.{checked_source}
use Rattle.lnav_subframe.proofs.ParityFunctions.{one_source}
use Rattle.lnav_subframe.specs.Words.{AreSource, IsWord, last_before, word_of}
use Rattle.lnav_subframe.specs.Writing.{AreWords}

-- equal numbers have equal bits
bits_same : (a b : List ℕ) (at n : ℕ) → number_at a at n ≡ number_at b at n → (i : ℕ) → i < n → bit a (at + i) ≡ bit b (at + i)
unfolding number_at
bits_same a b at zero e i h = absurd (omega arith)
bits_same a b at (suc n) e i h =
    let upper : number_at a at n ≡ number_at b at n = omega (arith, e, bit-lt a (at + n), bit-lt b (at + n)) in
    let lowest : bit a (at + n) ≡ bit b (at + n) = omega (arith, e, bit-lt a (at + n), bit-lt b (at + n)) in
    below_more (λ j. bit a (at + j) ≡ bit b (at + j)) n (bits_same a b at n upper) lowest i (omega arith)

pub inside : (a b : List ℕ) (at n : ℕ) → number_at a at n ≡ number_at b at n → SameInside a b at (at + n)
inside a b at n e = record {
  same = λ i low high. let s : at + (i - at) ≡ i = omega arith in
      let d : bit a (at + (i - at)) ≡ bit b (at + (i - at)) = bits_same a b at n e (i - at) (omega arith) in
      ap (bit a) (sym s) ∙ d ∙ ap (bit b) s;
}

-- the data bits of each word agree, except for the last two of words 2 and 10
pub record Agree (a b : List ℕ) : Type 0 where
  pub first : (k : ℕ) → k < 10 → SameInside a b (30 * k) (30 * k + 22)
  pub all : (k : ℕ) → k < 10 → (k ≡ 1 → ⊥) → (k ≡ 9 → ⊥) → SameInside a b (30 * k) (30 * k + 24)

upper_part : (bytes : List ℕ) (at : ℕ) → number_at bytes at 24 / 4 ≡ number_at bytes at 22
upper_part bytes at = omega (arith, number_at-append bytes at 22 2, number_at-lt bytes (at + 22) 2)

-- a written word is good
good_by : (k word last m : ℕ) (second tenth : Bool) → nat_eq k 1 ≡ second → nat_eq k 9 ≡ tenth → IsWord k word last m → IsGood word last
good_by k word last m true tenth e e' is = (is.second (eqb-true k 1 e)).good
good_by k word last m false true e e' is = (is.tenth (eqb-true k 9 e')).good
good_by k word last m false false e e' is = is.good (eqb-false k 1 e) (eqb-false k 9 e')

pub good_word : (k word last m : ℕ) → IsWord k word last m → IsGood word last
good_word k word last m is = good_by k word last m (nat_eq k 1) (nat_eq k 9) refl refl is

-- the written and the read bits agree, word by word
solved_agree : (word last m n : ℕ) → IsSolved word last (m / 4) → IsSource word last n → m / 4 ≡ n / 4
solved_agree word last m n is source = sym is.first.2 ∙ ap (λ x. x / 4) (one_source word last is.first.0 n is.first.1 source)

first_by : (k word last m n : ℕ) (second tenth : Bool) → nat_eq k 1 ≡ second → nat_eq k 9 ≡ tenth → IsWord k word last m → IsSource word last n → m / 4 ≡ n / 4
first_by k word last m n true tenth e e' is source = solved_agree word last m n (is.second (eqb-true k 1 e)) source
first_by k word last m n false true e e' is source = solved_agree word last m n (is.tenth (eqb-true k 9 e')) source
first_by k word last m n false false e e' is source = ap (λ x. x / 4) (one_source word last m n (is.source (eqb-false k 1 e) (eqb-false k 9 e')) source)

first_agree : (k word last m n : ℕ) → IsWord k word last m → IsSource word last n → m / 4 ≡ n / 4
first_agree k word last m n is source = first_by k word last m n (nat_eq k 1) (nat_eq k 9) refl refl is source

all_agree : (k word last m n : ℕ) → (k ≡ 1 → ⊥) → (k ≡ 9 → ⊥) → IsWord k word last m → IsSource word last n → m ≡ n
all_agree k word last m n no2 no10 is source = one_source word last m n (is.source no2 no10) source

pub agree : (bits a b : List ℕ) → AreWords bits a → AreSource bits b 10 → Agree a b
agree bits a b words source = record {
  first = λ k h. inside a b (30 * k) 22
      (sym (upper_part a (30 * k)) ∙ first_agree k (word_of bits k) (last_before bits k) _ _ (words.words k h) (source k h) ∙ upper_part b (30 * k));
  all = λ k h no2 no10. inside a b (30 * k) 24
      (all_agree k (word_of bits k) (last_before bits k) _ _ no2 no10 (words.words k h) (source k h));
}

-- two readings of the same words agree
pub two_agree : (bits a b : List ℕ) → AreSource bits a 10 → AreSource bits b 10 → Agree a b
two_agree bits a b p q =
    let same : (k : ℕ) → k < 10 → number_at a (30 * k) 24 ≡ number_at b (30 * k) 24 = λ k h. one_source (word_of bits k) (last_before bits k) _ _ (p k h) (q k h) in
    record {
      first = λ k h. inside a b (30 * k) 22 (sym (upper_part a (30 * k)) ∙ ap (λ x. x / 4) (same k h) ∙ upper_part b (30 * k));
      all = λ k h other2 other10. inside a b (30 * k) 24 (same k h);
    }

-- a field that ends by the 22nd data bit of its word
pub number_22 : (a b : List ℕ) → Agree a b → (at w : ℕ) → nat_lt at 300 ≡ true → nat_le (at % 30 + w) 22 ≡ true → number_at a at w ≡ number_at b at w
number_22 a b same at w place fits =
    let k_low : at / 30 < 10 = omega (arith, ltb-true at 300 place) in
    let word : SameInside a b (30 * (at / 30)) (30 * (at / 30) + 22) = same.first (at / 30) k_low in
    number_at-same a b at w (record { same = λ i low high. word.same i (omega arith) (omega (arith, leb-true (at % 30 + w) 22 fits)) })

-- a field of a word other than 2 and 10
pub number_24 : (a b : List ℕ) → Agree a b → (at w : ℕ) → nat_lt at 300 ≡ true → nat_le (at % 30 + w) 24 ≡ true
    → nat_eq (at / 30) 1 ≡ false → nat_eq (at / 30) 9 ≡ false → number_at a at w ≡ number_at b at w
number_24 a b same at w place fits no2 no10 =
    let k_low : at / 30 < 10 = omega (arith, ltb-true at 300 place) in
    let word : SameInside a b (30 * (at / 30)) (30 * (at / 30) + 24) = same.all (at / 30) k_low (eqb-false (at / 30) 1 no2) (eqb-false (at / 30) 9 no10) in
    number_at-same a b at w (record { same = λ i low high. word.same i (omega arith) (omega (arith, leb-true (at % 30 + w) 24 fits)) })

-- the first eight bits of the first word are sent as they are
unturned : (word m : ℕ) → word < 2 ^ 30 → IsSource word 0 m → word / 64 ≡ m
unturned word m fits is =
    one_source word 0 (word / 64) m
    (checked_source word 0 (word / 64) (omega arith) (λ i h. omega (arith, bit_at-lt (word / 64) i))) is

pub preamble_sent : (bits a : List ℕ) → AreWords bits a → number_at bits 0 8 ≡ number_at a 0 8
unfolding last_before
preamble_sent bits a words =
    let first : IsSource (number_at bits 0 30) 0 (number_at a 0 24) = (words.words 0 (omega arith)).source (λ e. absurd (omega arith)) (λ e. absurd (omega arith)) in
    let same : number_at bits 0 30 / 64 ≡ number_at a 0 24 = unturned (number_at bits 0 30) (number_at a 0 24) (number_at-lt bits 0 30) first in
    omega (arith, same, number_at-append bits 0 8 22, number_at-lt bits 8 22, number_at-append a 0 8 16, number_at-lt a 8 16)
