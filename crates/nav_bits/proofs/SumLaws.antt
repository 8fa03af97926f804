-- Sums of polynomials: regrouping, cancelling, and the products with x^k and with a single bit.
use Rattle.std.proofs.Common.{◌≡◌, ℕ, zero, suc, ◌*◌, ◌^◌, ◌<◌, sym, ap, ◌∙◌, arith, add-zero}
use Rattle.std.specs.Int.Bits.{bit_xor, xor_assoc, xor_self, xor_zero_l, xor_zero_r}
use Rattle.std.proofs.lemmas.Nat.{xor_comm, xor_block, pow_pos}

pub swap_first : (a b c : ℕ) → bit_xor a (bit_xor b c) ≡ bit_xor b (bit_xor a c)
swap_first a b c = sym (xor_assoc a b c) ∙ ap (λ x. bit_xor x c) (xor_comm a b) ∙ xor_assoc b a c

pub regroup : (a b c d : ℕ) → bit_xor (bit_xor a b) (bit_xor c d) ≡ bit_xor (bit_xor a c) (bit_xor b d)
regroup a b c d =
    xor_assoc a b (bit_xor c d) ∙ ap (bit_xor a) (swap_first b c d) ∙ sym (xor_assoc a c (bit_xor b d))

pub cancel : (a b : ℕ) → bit_xor a (bit_xor a b) ≡ b
cancel a b = sym (xor_assoc a a b) ∙ ap (λ x. bit_xor x b) (xor_self a) ∙ xor_zero_l b

pub same_from_zero : (a b : ℕ) → bit_xor a b ≡ 0 → a ≡ b
same_from_zero a b e = sym (xor_zero_r a) ∙ ap (bit_xor a) (sym e) ∙ cancel a b

-- x^k times a sum
pub xor-mul_pow : (k a b : ℕ) → bit_xor a b * 2 ^ k ≡ bit_xor (a * 2 ^ k) (b * 2 ^ k)
xor-mul_pow k a b = sym (simp add-zero at (xor_block k a b 0 0 (pow_pos k) (pow_pos k)))

-- a sum of two single bits, times a polynomial
pub digits-mul : (g s t : ℕ) → s < 2 → t < 2 → bit_xor s t * g ≡ bit_xor (s * g) (t * g)
digits-mul g zero t hs ht = ap (λ x. x * g) (xor_zero_l t) ∙ sym (ap (λ x. bit_xor x (t * g)) zero_times ∙ xor_zero_l (t * g))
  where
    zero_times : 0 * g ≡ 0
    zero_times = omega arith
digits-mul g (suc zero) zero hs ht = sym (ap (bit_xor (1 * g)) zero_times ∙ xor_zero_r (1 * g))
  where
    zero_times : 0 * g ≡ 0
    zero_times = omega arith
digits-mul g (suc zero) (suc zero) hs ht = zero_times ∙ sym (xor_self (1 * g))
  where
    zero_times : 0 * g ≡ 0
    zero_times = omega arith
digits-mul g (suc zero) (suc (suc t)) hs ht = absurd (omega arith)
digits-mul g (suc (suc s)) t hs ht = absurd (omega arith)
