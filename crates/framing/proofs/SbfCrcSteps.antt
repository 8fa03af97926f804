-- The CRC byte by byte, the registers after each byte, and a register advanced over zero bytes.
use Rattle.std.proofs.Common.{◌≡◌, ℕ, zero, suc, ◌+◌, ◌-◌, ◌*◌, ◌/◌, ◌%◌, ◌^◌, ◌<◌, ◌≤◌, ◌⊎◌, inl}
use Rattle.std.proofs.Common.{inr, nat_eq, List, [], ◌∷◌, ◌++◌, length, get_or, take, drop, refl}
use Rattle.std.proofs.Common.{sym, ap, subst, ◌∙◌, arith, add-zero, length-drop}
use Rattle.std.proofs.lemmas.Bool.{cases_lt}
use Rattle.std.proofs.lemmas.List.{drop-take, drop-drop, length-take-le}
use Rattle.std.proofs.lemmas.List.{take_more, get_or-take, get_or-drop, get_or_append_left}
use Rattle.std.proofs.lemmas.List.{get_or_push, length_push}
use Rattle.std.proofs.lemmas.Nat.{shr-shr, shr_le}
use Rattle.std.specs.Int.Bits.{bit_xor, xor_zero_r}
use lib.Bits.{xor_shifted}
use Rattle.framing.specs.SbfRegister.{stepped, shift, with_byte_of, crc_from}
use Rattle.framing.specs.SbfForm.{has_right_crc}
use Rattle.framing.specs.SbfStates.{AreStates, ArePowers}
use Rattle.framing.proofs.SbfRegisterLaws.{stepped_small, shift-xor, shift-add}
use Rattle.framing.proofs.SbfRegisterLaws.{shift-zero, with_byte_of-lt, crc_from-append}
use Rattle.framing.proofs.SbfRegisterLaws.{crc_of_part}

-- one more byte
pub crc_next : (r : ℕ) (xs : List ℕ) (i : ℕ) → i < length xs
    → crc_from r (take (i + 1) xs) ≡ with_byte_of (crc_from r (take i xs)) (get_or xs i 0)
unfolding crc_from
crc_next r xs i h =
    ap (crc_from r) (take_more xs i 0 h) ∙ crc_from-append r (take i xs) (get_or xs i 0 ∷ [])

pub state-lt : (bytes states : List ℕ) → AreStates bytes states → (i : ℕ) → i < length states
    → get_or states i 0 < 2 ^ 16
state-lt bytes states are zero h = are.first
state-lt bytes states are (suc i) h =
    let next : i + 1 ≡ suc i = omega arith in
    let step : get_or states (i + 1) 0 ≡ with_byte_of (get_or states i 0) (get_or bytes i 0) =
    are.steps i (omega arith) in
    subst (λ n. n < 2 ^ 16) (sym step ∙ ap (λ n. get_or states n 0) next)
    (with_byte_of-lt (get_or states i 0) (get_or bytes i 0)
    (state-lt bytes states are i (omega arith)))

-- a later register is an earlier one after the bytes between
pub state_after : (bytes states : List ℕ) → AreStates bytes states → (a n : ℕ)
    → a + n < length states
    → get_or states (a + n) 0 ≡ crc_from (get_or states a 0) (take n (drop a bytes))
unfolding crc_from
state_after bytes states are a zero h = ap (λ n. get_or states n 0) (add-zero a)
state_after bytes states are a (suc n) h =
    let place : a + suc n ≡ a + n + 1 = omega arith in
    let count : n + 1 ≡ suc n = omega arith in
    let inside : n < length (drop a bytes) = omega (arith, length-drop a bytes, are.most) in
    ap (λ m. get_or states m 0) place
    ∙ are.steps (a + n) (omega arith)
    ∙ ap (λ r. with_byte_of r (get_or bytes (a + n) 0))
    (state_after bytes states are a n (omega arith))
    ∙ sym (ap (λ m. crc_from (get_or states a 0) (take m (drop a bytes))) (sym count)
    ∙ crc_next (get_or states a 0) (drop a bytes) n inside
    ∙ ap (with_byte_of (crc_from (get_or states a 0) (take n (drop a bytes))))
    (get_or-drop a bytes n 0))

pub states_cut : (bytes states : List ℕ) → AreStates bytes states → (count : ℕ)
    → count < length states → AreStates (drop count bytes) (drop count states)
states_cut bytes states are count h = record {
  some = omega (arith, length-drop count states);
  most = omega (arith, length-drop count states, length-drop count bytes, are.most);
  first = subst (λ n. n < 2 ^ 16) (sym (get_or-drop count states 0 0))
      (state-lt bytes states are (count + 0) (omega arith));
  steps = λ i less.
      let place : count + (i + 1) ≡ count + i + 1 = omega arith in
      get_or-drop count states (i + 1) 0 ∙ ap (λ n. get_or states n 0) place
      ∙ are.steps (count + i) (omega (arith, length-drop count states))
      ∙ sym (ap (λ r. with_byte_of r (get_or (drop count bytes) i 0)) (get_or-drop count states i 0)
      ∙ ap (with_byte_of (get_or states (count + i) 0)) (get_or-drop count bytes i 0));
}

pub states_more : (bytes states : List ℕ) (place next : ℕ) → AreStates bytes states
    → length states ≡ place + 1 → place < length bytes
    → next ≡ with_byte_of (get_or states place 0) (get_or bytes place 0)
    → AreStates bytes (states ++ next ∷ [])
states_more bytes states place next are count inside is = record {
  some = omega (arith, length_push states next);
  most = omega (arith, length_push states next);
  first = subst (λ n. n < 2 ^ 16) (sym (get_or_append_left states (next ∷ []) 0 0 are.some))
      are.first;
  steps = λ i less. step i (omega (arith, length_push states next)) (cases_lt i place);
}
  where
    before : (i : ℕ) → i < length states → get_or (states ++ next ∷ []) i 0 ≡ get_or states i 0
    before i h = get_or_append_left states (next ∷ []) 0 i h

    step : (i : ℕ) → i ≤ place → (i < place) ⊎ (place ≤ i)
        → get_or (states ++ next ∷ []) (i + 1) 0
        ≡ with_byte_of (get_or (states ++ next ∷ []) i 0) (get_or bytes i 0)
    step i most (inl less) =
        before (i + 1) (omega arith) ∙ are.steps i (omega arith)
        ∙ ap (λ r. with_byte_of r (get_or bytes i 0)) (sym (before i (omega arith)))
    step i most (inr more) =
        let same : place ≡ i = omega arith in
        let at : length states ≡ i + 1 = omega arith in
        get_or_push states next 0 (i + 1) at ∙ is
        ∙ ap (λ n. with_byte_of (get_or states n 0) (get_or bytes n 0)) same
        ∙ ap (λ r. with_byte_of r (get_or bytes i 0)) (sym (before i (omega arith)))

-- x times a remainder, advanced
twice : (n m : ℕ) → m < 2 ^ 15 → shift n (m * 2) ≡ stepped (shift n m)
unfolding shift
twice n m h =
    let order : n + 1 ≡ suc n = omega arith in
    ap (shift n) (sym (stepped_small m h)) ∙ sym (shift-add n 1 m) ∙ ap (λ k. shift k m) order

-- one bit, advanced
digit : (n d : ℕ) → d < 2 → shift n d ≡ d * shift n 1
digit n zero h = shift-zero n ∙ omega arith
digit n (suc zero) h = omega arith
digit n (suc (suc d)) h = absurd (omega arith)

-- one more bit of the register that is advanced
pub bit_step : (n state k sum power : ℕ) → state < 2 ^ 16 → power < 2 ^ 16 → k < 16
    → power ≡ shift n 1 → sum ≡ shift n (state / 2 ^ (16 - k))
    → bit_xor (stepped sum) (state / 2 ^ (15 - k) % 2 * power) ≡ shift n (state / 2 ^ (16 - (k + 1)))
bit_step n state k sum power fits less inside power_is sum_is =
    let places : 15 - k + 1 ≡ 16 - k = omega arith in
    let rest : 16 - (k + 1) ≡ 15 - k = omega arith in
    let half : state / 2 ^ (15 - k) / 2 ≡ state / 2 ^ (16 - k) =
    shr-shr state (15 - k) 1 ∙ ap (λ m. state / 2 ^ m) places in
    let m : ℕ = state / 2 ^ (16 - k) in
    let d : ℕ = state / 2 ^ (15 - k) % 2 in
    let small : m < 2 ^ 15 = below_half state k fits inside in
    let whole : m * 2 + d ≡ state / 2 ^ (15 - k) = omega (arith, half) in
    ap (λ r. bit_xor (stepped r) (d * power)) sum_is
    ∙ ap (λ r. bit_xor (stepped (shift n m)) (d * r)) power_is
    ∙ sym (next_bit n m d small (omega arith))
    ∙ ap (shift n) whole ∙ ap (λ j. shift n (state / 2 ^ j)) (sym rest)
  where
    below_half : (state k : ℕ) → state < 2 ^ 16 → k < 16 → state / 2 ^ (16 - k) < 2 ^ 15
    below_half state k h l =
        let places : 1 + (15 - k) ≡ 16 - k = omega arith in
        let half : state / 2 / 2 ^ (15 - k) ≡ state / 2 ^ (16 - k) =
        shr-shr state 1 (15 - k) ∙ ap (λ m. state / 2 ^ m) places in
        omega (arith, half, shr_le (state / 2) (15 - k))

    next_bit : (n m d : ℕ) → m < 2 ^ 15 → d < 2
        → shift n (m * 2 + d) ≡ bit_xor (stepped (shift n m)) (d * shift n 1)
    next_bit n m d hm hd =
        let inside : m * 2 ^ 1 < 2 ^ 16 = omega arith in
        ap (shift n) (sym (xor_shifted m 1 d hd)) ∙ shift-xor n (m * 2 ^ 1) d inside (omega arith)
        ∙ ap (λ x. bit_xor x (shift n d)) (twice n m hm)
        ∙ ap (bit_xor (stepped (shift n m))) (digit n d hd)

-- no bit of the register
pub no_bits : (n state : ℕ) → state < 2 ^ 16 → 0 ≡ shift n (state / 2 ^ 16)
no_bits n state fits =
    let none : state / 2 ^ 16 ≡ 0 = omega arith in
    sym (ap (shift n) none ∙ shift-zero n)

-- all its bits
pub all_bits : (n state : ℕ) → shift n (state / 2 ^ 0) ≡ shift n state
all_bits n state = let same : state / 2 ^ 0 ≡ state = omega arith in ap (shift n) same

-- the power for no byte
pub first_power : ArePowers (1 ∷ [])
unfolding shift
first_power = record { some = omega arith; each = λ n h. at n h }
  where
    at : (n : ℕ) → n < length {A = ℕ} (1 ∷ []) → get_or (1 ∷ []) n 0 ≡ shift (32 * n) 1
    at zero h = refl
    at (suc n) h = absurd (omega arith)

-- one more power
pub powers_more : (powers : List ℕ) (k power : ℕ) → ArePowers powers → length powers ≡ k + 1
    → power ≡ shift 32 (get_or powers k 0)
    → ArePowers (powers ++ power ∷ [])
powers_more powers k power are count is = record {
  some = omega (arith, length_push powers power);
  each = λ n h. at n (omega (arith, length_push powers power)) (cases_lt n (k + 1));
}
  where
    at : (n : ℕ) → n ≤ k + 1 → (n < k + 1) ⊎ (k + 1 ≤ n)
        → get_or (powers ++ power ∷ []) n 0 ≡ shift (32 * n) 1
    at n most (inl less) = get_or_append_left powers (power ∷ []) 0 n (omega arith)
        ∙ are.each n (omega arith)
    at n most (inr more) =
        let last : length powers ≡ n = omega arith in
        let place : 32 + 32 * k ≡ 32 * n = omega arith in
        get_or_push powers power 0 n last ∙ is ∙ ap (shift 32) (are.each k (omega arith))
        ∙ sym (shift-add 32 (32 * k) 1) ∙ ap (λ m. shift m 1) place

-- the register after four zero bytes
pub four_zeros : (r a b c d : ℕ) → r < 2 ^ 16 → a ≡ with_byte_of r 0 → b ≡ with_byte_of a 0
    → c ≡ with_byte_of b 0 → d ≡ with_byte_of c 0 → d ≡ shift 32 r
unfolding with_byte_of
four_zeros r a b c d h a_is b_is c_is d_is =
    d_is ∙ ap (shift 8) (xor_zero_r c)
    ∙ ap (shift 8) (c_is ∙ ap (shift 8) (xor_zero_r b)
    ∙ ap (shift 8) (b_is ∙ ap (shift 8) (xor_zero_r a)
    ∙ ap (shift 8) (a_is ∙ ap (shift 8) (xor_zero_r r))))
    ∙ ap (λ x. shift 8 (shift 8 x)) (sym (shift-add 8 8 r)) ∙ ap (shift 8) (sym (shift-add 8 16 r))
    ∙ sym (shift-add 8 24 r)

-- the registers tell whether a block has the right CRC
pub right_by : (bytes states : List ℕ) → AreStates bytes states → (place size moved : ℕ) → 8 ≤ size
    → place + size ≤ length bytes → place + size < length states
    → moved ≡ shift (8 * (size - 4)) (get_or states (place + 4) 0)
    → nat_eq (bit_xor (get_or states (place + size) 0) moved)
    (get_or bytes (place + 3) 0 * 256 + get_or bytes (place + 2) 0)
    ≡ has_right_crc (take size (drop place bytes))
unfolding has_right_crc
right_by bytes states are place size moved long inside reached moved_is =
    let xs : List ℕ = take (size - 4) (drop (place + 4) bytes) in
    let whole : 4 + (size - 4) ≡ size = omega arith in
    let body : drop 4 (take size (drop place bytes)) ≡ take (size - 4) (drop (place + 4) bytes) =
    ap (λ n. drop 4 (take n (drop place bytes))) (sym whole)
    ∙ drop-take 4 (size - 4) (drop place bytes) ∙ ap (take (size - 4)) (drop-drop 4 place bytes) in
    let count : length (take (size - 4) (drop (place + 4) bytes)) ≡ size - 4 =
    length-take-le (size - 4) (drop (place + 4) bytes)
    (omega (arith, length-drop (place + 4) bytes)) in
    let end : place + 4 + (size - 4) ≡ place + size = omega arith in
    let after : get_or states (place + size) 0
    ≡ crc_from (get_or states (place + 4) 0) (take (size - 4) (drop (place + 4) bytes)) =
    ap (λ n. get_or states n 0) (sym end)
    ∙ state_after bytes states are (place + 4) (size - 4) (omega arith) in
    let sum : bit_xor (get_or states (place + size) 0) moved
    ≡ crc_from 0 (drop 4 (take size (drop place bytes))) =
    ap (λ n. bit_xor n moved) after
    ∙ ap (bit_xor (crc_from (get_or states (place + 4) 0)
    (take (size - 4) (drop (place + 4) bytes)))) (moved_is
    ∙ ap (λ n. shift (8 * n) (get_or states (place + 4) 0)) (sym count))
    ∙ sym (crc_of_part (get_or states (place + 4) 0) (take (size - 4) (drop (place + 4) bytes))
    (state-lt bytes states are (place + 4) (omega arith)))
    ∙ ap (crc_from 0) (sym body) in
    let third : get_or (take size (drop place bytes)) 3 0 ≡ get_or bytes (place + 3) 0 =
    get_or-take size (drop place bytes) 3 0 (omega arith) ∙ get_or-drop place bytes 3 0 in
    let second : get_or (take size (drop place bytes)) 2 0 ≡ get_or bytes (place + 2) 0 =
    get_or-take size (drop place bytes) 2 0 (omega arith) ∙ get_or-drop place bytes 2 0 in
    ap (λ n. nat_eq n (get_or bytes (place + 3) 0 * 256 + get_or bytes (place + 2) 0)) sum
    ∙ ap (λ n. nat_eq (crc_from 0 (drop 4 (take size (drop place bytes))))
    (n * 256 + get_or bytes (place + 2) 0)) (sym third)
    ∙ ap (λ n. nat_eq (crc_from 0 (drop 4 (take size (drop place bytes))))
    (get_or (take size (drop place bytes)) 3 0 * 256 + n)) (sym second)
