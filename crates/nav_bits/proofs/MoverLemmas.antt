-- The tables of a mover: two more entries, the tables of the higher bytes, and the register by three look-ups.
use Rattle.std.proofs.Common.{◌≡◌, ℕ, ◌+◌, ◌*◌, ◌/◌, ◌%◌, ◌^◌, ◌<◌, ◌≤◌, List, length, get_or, refl, sym, ap, subst, ◌∙◌, arith, ◌⊎◌, inl, inr}
use Rattle.std.proofs.Math.ListN.{set}
use Rattle.std.proofs.lemmas.Bool.{cases_lt}
use Rattle.std.proofs.lemmas.Grind.{get_or-set_at}
use Rattle.std.proofs.lemmas.List.{get_or-set_other, length-set}
use Rattle.std.proofs.lemmas.Nat.{and_mask}
use Rattle.std.specs.Int.Bits.{bit_and, bit_xor, xor_zero_r}
use lib.Bits.{xor_shifted}
use Rattle.nav_bits.specs.Register.{stepped, shift, with_byte_of}
use Rattle.nav_bits.proofs.RegisterLaws.{shift-add, shift_small}
use Rattle.nav_bits.proofs.StepLemmas.{twice, both}

-- what holds of the entries before two new ones, and of these, holds up to their end
pub two_more : (P : ℕ → ℕ → Type 0) (xs : List ℕ) (half even odd : ℕ) → 2 * half + 1 < length xs
    → ((d : ℕ) → d < 2 * half → P d (get_or xs d 0)) → P (2 * half) even → P (2 * half + 1) odd
    → (d : ℕ) → d < 2 * (half + 1) → P d (get_or (set (set xs (2 * half) even) (2 * half + 1) odd) d 0)
two_more P xs half even odd inside before at_even at_odd d h = place (cases_lt d (2 * half)) (cases_lt d (2 * half + 1))
  where
    first : List ℕ
    first = set xs (2 * half) even

    place : (d < 2 * half) ⊎ (2 * half ≤ d) → (d < 2 * half + 1) ⊎ (2 * half + 1 ≤ d) → P d (get_or (set first (2 * half + 1) odd) d 0)
    place (inl less) below =
        subst (P d) (sym (get_or-set_other first (2 * half + 1) d odd 0 (omega arith) ∙ get_or-set_other xs (2 * half) d even 0 (omega arith))) (before d less)
    place (inr more) (inl below) =
        let same : 2 * half ≡ d = omega arith in
        subst (P d) (sym (get_or-set_other first (2 * half + 1) d odd 0 (omega arith) ∙ get_or-set_at xs (2 * half) d even 0 (sym same) (omega arith)))
        (subst (λ n. P n even) same at_even)
    place (inr more) (inr above) =
        let same : 2 * half + 1 ≡ d = omega arith in
        subst (P d) (sym (get_or-set_at first (2 * half + 1) d odd 0 (sym same) (omega (arith, length-set xs (2 * half) even))))
        (subst (λ n. P n odd) same at_odd)

pub even_is : (n half entry even : ℕ) → half < 128 → entry ≡ shift n half → even ≡ stepped entry → even ≡ shift n (2 * half)
even_is n half entry even h entry_is is =
    let order : half * 2 ≡ 2 * half = omega arith in
    twice n half entry even (omega arith) entry_is is ∙ ap (shift n) order

pub odd_is : (n half even one : ℕ) → half < 128 → even ≡ shift n (2 * half) → one ≡ shift n 1 → bit_xor even one ≡ shift n (2 * half + 1)
odd_is n half even one h is one_is =
    let order : 2 * half ≡ half * 2 ^ 1 = omega arith in
    let back : half * 2 ^ 1 + 1 ≡ 2 * half + 1 = omega arith in
    both n (2 * half) 1 even one (omega arith) (omega arith) is one_is
    ∙ ap (shift n) (ap (λ m. bit_xor m 1) order ∙ xor_shifted half 1 1 (omega arith) ∙ back)

-- a power advanced by eight bits
pub next_power : (n one next : ℕ) → one ≡ shift n 1 → next ≡ with_byte_of one 0 → next ≡ shift (n + 8) 1
unfolding with_byte_of
next_power n one next one_is is =
    let order : 8 + n ≡ n + 8 = omega arith in
    is ∙ ap (shift 8) (xor_zero_r one ∙ one_is) ∙ sym (shift-add 8 n 1) ∙ ap (λ m. shift m 1) order

-- the middle and the high byte
pub in_middle : (n d : ℕ) → d < 256 → shift (n + 8) d ≡ shift n (d * 2 ^ 8)
in_middle n d h = shift-add n 8 d ∙ ap (shift n) (shift_small 8 16 d refl (omega arith))

pub at_head : (n d : ℕ) → d < 256 → shift (n + 8 + 8) d ≡ shift n (d * 2 ^ 16)
at_head n d h =
    let places : n + 8 + 8 ≡ n + 16 = omega arith in
    ap (λ m. shift m d) places ∙ shift-add n 16 d ∙ ap (shift n) (shift_small 16 8 d refl h)

pub looked_up : (n state low middle high : ℕ) → state < 2 ^ 24 → low ≡ shift n (bit_and state 255) → middle ≡ shift n (bit_and (state / 2 ^ 8) 255 * 2 ^ 8)
    → high ≡ shift n (state / 2 ^ 16 * 2 ^ 16) → bit_xor high (bit_xor middle low) ≡ shift n state
looked_up n state low middle high fits low_is middle_is high_is =
    let a : ℕ = bit_and state 255 in
    let b : ℕ = bit_and (state / 2 ^ 8) 255 in
    let c : ℕ = state / 2 ^ 16 in
    let end : a ≡ state % 2 ^ 8 = and_mask state 8 in
    let inside : b ≡ state / 2 ^ 8 % 2 ^ 8 = and_mask (state / 2 ^ 8) 8 in
    let lower : bit_xor middle low ≡ shift n (b * 2 ^ 8 + a) =
    both n (b * 2 ^ 8) a middle low (omega (arith, inside)) (omega (arith, end)) middle_is low_is ∙ ap (shift n) (xor_shifted b 8 a (omega (arith, end))) in
    let whole : c * 2 ^ 16 + (b * 2 ^ 8 + a) ≡ state = omega (arith, end, inside) in
    both n (c * 2 ^ 16) (b * 2 ^ 8 + a) high (bit_xor middle low) (omega arith) (omega (arith, end, inside)) high_is lower
    ∙ ap (shift n) (xor_shifted c 16 (b * 2 ^ 8 + a) (omega (arith, end, inside)) ∙ whole)
