-- The CRC registers beside the bytes of a window: the bytes between two of them, and what keeps them right when bytes are
-- cut, appended or passed.
use Rattle.std.proofs.Common.{◌≡◌, ℕ, zero, suc, ◌+◌, ◌-◌, ◌^◌, ◌<◌, ◌≤◌, List, [], ◌∷◌, ◌++◌, length, get_or, take, drop, sym, ap, subst, ◌∙◌, arith, add-zero, length-drop, ◌⊎◌, inl, inr}
use Rattle.std.proofs.lemmas.Bool.{cases_lt}
use Rattle.std.proofs.lemmas.List.{take-take, length-take-le, take_more, get_or-drop, get_or_append_left, get_or_push, length_push}
use Rattle.nav_bits.specs.Register.{with_byte_of, crc_from}
use Rattle.nav_bits.proofs.Surface.{with_byte_of-lt, crc_from-append}
use Rattle.framing.specs.States.{AreStates}

pub state-lt : (bytes states : List ℕ) → AreStates bytes states → (i : ℕ) → i < length states → get_or states i 0 < 2 ^ 24
state-lt bytes states are zero h = are.first
state-lt bytes states are (suc i) h =
    let next : i + 1 ≡ suc i = omega arith in
    let step : get_or states (i + 1) 0 ≡ with_byte_of (get_or states i 0) (get_or bytes i 0) = are.steps i (omega arith) in
    subst (λ n. n < 2 ^ 24) (sym step ∙ ap (λ n. get_or states n 0) next)
    (with_byte_of-lt (get_or states i 0) (get_or bytes i 0) (state-lt bytes states are i (omega arith)))

-- the register some bytes later is the one before advanced by these bytes
pub state_after : (bytes states : List ℕ) → AreStates bytes states → (a n : ℕ) → a + n < length states
    → get_or states (a + n) 0 ≡ crc_from (get_or states a 0) (take n (drop a bytes))
unfolding crc_from
state_after bytes states are a zero h = ap (λ n. get_or states n 0) (add-zero a)
state_after bytes states are a (suc n) h =
    let place : a + suc n ≡ a + n + 1 = omega arith in
    let count : n + 1 ≡ suc n = omega arith in
    let inside : n < length (drop a bytes) = omega (arith, length-drop a bytes, are.most) in
    ap (λ m. get_or states m 0) place
    ∙ are.steps (a + n) (omega arith)
    ∙ ap (λ r. with_byte_of r (get_or bytes (a + n) 0)) (state_after bytes states are a n (omega arith))
    ∙ sym (ap (λ m. crc_from (get_or states a 0) (take m (drop a bytes))) (sym count)
    ∙ ap (crc_from (get_or states a 0)) (take_more (drop a bytes) n 0 inside)
    ∙ crc_from-append (get_or states a 0) (take n (drop a bytes)) (get_or (drop a bytes) n 0 ∷ [])
    ∙ ap (with_byte_of (crc_from (get_or states a 0) (take n (drop a bytes)))) (get_or-drop a bytes n 0))

-- one register alone is right beside any bytes
pub alone : (bytes : List ℕ) → AreStates bytes (0 ∷ [])
alone bytes = record {
  some = omega arith;
  most = omega arith;
  first = omega arith;
  steps = λ i h. absurd (omega arith);
}

pub states_cut : (bytes states : List ℕ) → AreStates bytes states → (count : ℕ) → count < length states → AreStates (drop count bytes) (drop count states)
states_cut bytes states are count h = record {
  some = omega (arith, length-drop count states);
  most = omega (arith, length-drop count states, length-drop count bytes, are.most);
  first = subst (λ n. n < 2 ^ 24) (sym (get_or-drop count states 0 0)) (state-lt bytes states are (count + 0) (omega arith));
  steps = λ i less.
      let place : count + (i + 1) ≡ count + i + 1 = omega arith in
      get_or-drop count states (i + 1) 0 ∙ ap (λ n. get_or states n 0) place ∙ are.steps (count + i) (omega (arith, length-drop count states))
      ∙ sym (ap (λ r. with_byte_of r (get_or (drop count bytes) i 0)) (get_or-drop count states i 0)
      ∙ ap (with_byte_of (get_or states (count + i) 0)) (get_or-drop count bytes i 0));
}

pub states_byte : (bytes states : List ℕ) (byte : ℕ) → AreStates bytes states → AreStates (bytes ++ byte ∷ []) states
states_byte bytes states byte are = record {
  some = are.some;
  most = omega (arith, length_push bytes byte, are.most);
  first = are.first;
  steps = λ i less.
      are.steps i less ∙ ap (with_byte_of (get_or states i 0)) (sym (get_or_append_left bytes (byte ∷ []) 0 i (omega (arith, are.most))));
}

pub states_more : (bytes states : List ℕ) (place next : ℕ) → AreStates bytes states → length states ≡ place + 1 → place < length bytes
    → next ≡ with_byte_of (get_or states place 0) (get_or bytes place 0) → AreStates bytes (states ++ next ∷ [])
states_more bytes states place next are count inside is = record {
  some = omega (arith, length_push states next);
  most = omega (arith, length_push states next);
  first = subst (λ n. n < 2 ^ 24) (sym (get_or_append_left states (next ∷ []) 0 0 are.some)) are.first;
  steps = λ i less. step i (omega (arith, length_push states next)) (cases_lt i place);
}
  where
    before : (i : ℕ) → i < length states → get_or (states ++ next ∷ []) i 0 ≡ get_or states i 0
    before i h = get_or_append_left states (next ∷ []) 0 i h

    step : (i : ℕ) → i ≤ place → (i < place) ⊎ (place ≤ i)
        → get_or (states ++ next ∷ []) (i + 1) 0 ≡ with_byte_of (get_or (states ++ next ∷ []) i 0) (get_or bytes i 0)
    step i most (inl less) =
        before (i + 1) (omega arith) ∙ are.steps i (omega arith) ∙ ap (λ r. with_byte_of r (get_or bytes i 0)) (sym (before i (omega arith)))
    step i most (inr more) =
        let same : place ≡ i = omega arith in
        let at : length states ≡ i + 1 = omega arith in
        get_or_push states next 0 (i + 1) at ∙ is ∙ ap (λ n. with_byte_of (get_or states n 0) (get_or bytes n 0)) same
        ∙ ap (λ r. with_byte_of r (get_or bytes i 0)) (sym (before i (omega arith)))

-- the register at the end of a frame's body is the one at its start advanced by the body
pub after_body : (bytes states before after frame : List ℕ) → AreStates bytes states → before ≡ states → after ≡ states → frame ≡ bytes
    → (place size : ℕ) → 3 ≤ size → place + size ≤ length bytes → place + size - 3 < length states
    → get_or after (place + size - 3) 0
    ≡ crc_from (get_or before place 0) (take (length (take (place + size - place) (drop place frame)) - 3) (take (place + size - place) (drop place frame)))
after_body bytes states before after frame are before_is after_is frame_is place size shortest inside reached =
    let range : place + size - place ≡ size = omega arith in
    let body : place + size - 3 ≡ place + (size - 3) = omega arith in
    let count : length (take size (drop place bytes)) ≡ size = length-take-le size (drop place bytes) (omega (arith, length-drop place bytes)) in
    let less : size - 3 ≤ size = omega arith in
    let same : take (length (take size (drop place bytes)) - 3) (take size (drop place bytes)) ≡ take (size - 3) (drop place bytes) =
    ap (λ n. take (n - 3) (take size (drop place bytes))) count ∙ take-take (size - 3) size (drop place bytes) less in
    ap (λ xs. get_or xs (place + size - 3) 0) after_is ∙ ap (λ n. get_or states n 0) body
    ∙ state_after bytes states are place (size - 3) (omega arith)
    ∙ ap (crc_from (get_or states place 0)) (sym same)
    ∙ ap (λ xs. crc_from (get_or xs place 0) (take (length (take size (drop place bytes)) - 3) (take size (drop place bytes)))) (sym before_is)
    ∙ ap (λ xs. crc_from (get_or before place 0) (take (length (take size (drop place xs)) - 3) (take size (drop place xs)))) (sym frame_is)
    ∙ ap (λ n. crc_from (get_or before place 0) (take (length (take n (drop place frame)) - 3) (take n (drop place frame)))) (sym range)

-- the register at the start of a frame has 24 bits
pub before-lt : (bytes states before : List ℕ) → AreStates bytes states → before ≡ states → (place : ℕ) → place < length states → get_or before place 0 < 2 ^ 24
before-lt bytes states before are before_is place inside =
    subst (λ xs. get_or xs place 0 < 2 ^ 24) (sym before_is) (state-lt bytes states are place inside)
