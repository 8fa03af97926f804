-- The six parity equations of a word against the parity of its source bits.
use Rattle.std.proofs.Common.{◌≡◌, ℕ, zero, suc, ◌+◌, ◌-◌, ◌*◌, ◌%◌, ◌^◌, ◌<◌, lit<, inl, inr, sym, ap, ◌∙◌, arith}
use Rattle.std.specs.Int.{bit_at}
use Rattle.std.proofs.lemmas.Bool.{cases_lt}
use Rattle.std.proofs.lemmas.Nat.Bits.{bit_at-lt, same_from_bits_below}
use Rattle.lnav_subframe.specs.Parity.{sent, source, d30_star, IsGood, IsSource}
use Rattle.lnav_subframe.specs.ParityMirrors.{IsParity, masked_sum}
use Rattle.lnav_subframe.proofs.Sums.{SameSums, same_sums, masked_sum-row_25, masked_sum-row_26, masked_sum-row_27, masked_sum-row_28, masked_sum-row_29, masked_sum-row_30}
use Rattle.lnav_subframe.proofs.WordBits.{all_star, all_source, inverted_same}

-- one row: of the masked bits, the parity bit
row_parity : (r masked star star' s t : ℕ) → r ≡ masked % 2 → masked ≡ star + s → star ≡ star' → s ≡ t → r ≡ (star' + t) % 2
row_parity r masked star star' s t e row stars sums = omega arith

-- six bits as one number
pub six_bits : (a b c d e f : ℕ) → a < 2 → b < 2 → c < 2 → d < 2 → e < 2 → f < 2
    → let n = 32 * a + 16 * b + 8 * c + 4 * d + 2 * e + f in
    (n < 64) × (bit_at n 5 ≡ a) × (bit_at n 4 ≡ b) × (bit_at n 3 ≡ c) × (bit_at n 2 ≡ d) × (bit_at n 1 ≡ e) × (bit_at n 0 ≡ f)
six_bits a b c d e f p q r s t u = (omega arith, omega arith, omega arith, omega arith, omega arith, omega arith, omega arith)

-- the six masked sums are the parity bits
pub parity_is : (bits last a b c d e f : ℕ) → bits < 2 ^ 24
    → a ≡ masked_sum 26 0x2EC7CD2 (bit_at (last * 2 ^ 24 + bits)) % 2
    → b ≡ masked_sum 26 0x1763E69 (bit_at (last * 2 ^ 24 + bits)) % 2
    → c ≡ masked_sum 26 0x2BB1F34 (bit_at (last * 2 ^ 24 + bits)) % 2
    → d ≡ masked_sum 26 0x15D8F9A (bit_at (last * 2 ^ 24 + bits)) % 2
    → e ≡ masked_sum 26 0x1AEC7CD (bit_at (last * 2 ^ 24 + bits)) % 2
    → f ≡ masked_sum 26 0x22DEA27 (bit_at (last * 2 ^ 24 + bits)) % 2
    → IsParity bits last (32 * a + 16 * b + 8 * c + 4 * d + 2 * e + f)
parity_is bits last a b c d e f fits p q r s t u =
    let all = last * 2 ^ 24 + bits in
    let sums : SameSums (λ n. bit_at all (24 - n)) (λ n. bit_at bits (24 - n)) = same_sums _ _ (λ n low high. all_source last bits n low) in
    let digits = six_bits a b c d e f (omega arith) (omega arith) (omega arith) (omega arith) (omega arith) (omega arith) in
    record {
      fits = digits.0;
      d25 = digits.1 ∙ row_parity a _ _ _ _ _ p (masked_sum-row_25 (bit_at all)) (all_star last bits 1 fits) sums.d25;
      d26 = digits.2 ∙ row_parity b _ _ _ _ _ q (masked_sum-row_26 (bit_at all)) (all_star last bits 0 fits) sums.d26;
      d27 = digits.3 ∙ row_parity c _ _ _ _ _ r (masked_sum-row_27 (bit_at all)) (all_star last bits 1 fits) sums.d27;
      d28 = digits.4 ∙ row_parity d _ _ _ _ _ s (masked_sum-row_28 (bit_at all)) (all_star last bits 0 fits) sums.d28;
      d29 = digits.5 ∙ row_parity e _ _ _ _ _ t (masked_sum-row_29 (bit_at all)) (all_star last bits 0 fits) sums.d29;
      d30 = digits.6 ∙ row_parity f _ _ _ _ _ u (masked_sum-row_30 (bit_at all)) (all_star last bits 1 fits) sums.d30;
    }

even_from : (x star s t p : ℕ) → x ≡ p → p ≡ (star + s) % 2 → s ≡ t → (x + star + t) % 2 ≡ 0
even_from x star s t p e parity sums = omega arith

even_to : (x star s t p : ℕ) → x < 2 → p ≡ (star + s) % 2 → s ≡ t → (x + star + t) % 2 ≡ 0 → x ≡ p
even_to x star s t p digit parity sums even = omega arith

even_same : (x y star s t : ℕ) → x < 2 → y < 2 → s ≡ t → (x + star + s) % 2 ≡ 0 → (y + star + t) % 2 ≡ 0 → x ≡ y
even_same x y star s t p q sums one two = omega arith

-- six parity bits with equal bits are equal
pub record SameParity (word parity : ℕ) : Type 0 where
  pub same : (k : ℕ) → k < 6 → bit_at word k ≡ bit_at parity k

pub good_from_parity : (word last bits parity : ℕ) → IsSource word last bits → IsParity bits last parity → SameParity word parity → IsGood word last
good_from_parity word last bits parity source_bits is same =
    let sums : SameSums (λ n. bit_at bits (24 - n)) (source word last) = same_sums _ _ source_bits.each in
    record {
      d25 = even_from (bit_at word 5) _ _ _ _ (same.same 5 (lit< tt)) is.d25 sums.d25;
      d26 = even_from (bit_at word 4) _ _ _ _ (same.same 4 (lit< tt)) is.d26 sums.d26;
      d27 = even_from (bit_at word 3) _ _ _ _ (same.same 3 (lit< tt)) is.d27 sums.d27;
      d28 = even_from (bit_at word 2) _ _ _ _ (same.same 2 (lit< tt)) is.d28 sums.d28;
      d29 = even_from (bit_at word 1) _ _ _ _ (same.same 1 (lit< tt)) is.d29 sums.d29;
      d30 = even_from (bit_at word 0) _ _ _ _ (same.same 0 (lit< tt)) is.d30 sums.d30;
    }

-- six facts, one for each bit
pub six : (P : ℕ → Type 0) → P 0 → P 1 → P 2 → P 3 → P 4 → P 5 → (k : ℕ) → k < 6 → P k
six P a b c d e f zero h = a
six P a b c d e f (suc zero) h = b
six P a b c d e f (suc (suc zero)) h = c
six P a b c d e f (suc (suc (suc zero))) h = d
six P a b c d e f (suc (suc (suc (suc zero)))) h = e
six P a b c d e f (suc (suc (suc (suc (suc zero))))) h = f
six P a b c d e f (suc (suc (suc (suc (suc (suc k)))))) h = absurd (omega arith)

pub parity_from_good : (word last bits parity : ℕ) → IsSource word last bits → IsParity bits last parity → IsGood word last → SameParity word parity
parity_from_good word last bits parity source_bits is good =
    let sums : SameSums (λ n. bit_at bits (24 - n)) (source word last) = same_sums _ _ source_bits.each in
    record {
      same = six (λ k. bit_at word k ≡ bit_at parity k)
          (even_to (bit_at word 0) _ _ _ _ (bit_at-lt word 0) is.d30 sums.d30 good.d30)
          (even_to (bit_at word 1) _ _ _ _ (bit_at-lt word 1) is.d29 sums.d29 good.d29)
          (even_to (bit_at word 2) _ _ _ _ (bit_at-lt word 2) is.d28 sums.d28 good.d28)
          (even_to (bit_at word 3) _ _ _ _ (bit_at-lt word 3) is.d27 sums.d27 good.d27)
          (even_to (bit_at word 4) _ _ _ _ (bit_at-lt word 4) is.d26 sums.d26 good.d26)
          (even_to (bit_at word 5) _ _ _ _ (bit_at-lt word 5) is.d25 sums.d25 good.d25);
    }

-- two good words of the same source bits have the same parity bits
same_parity : (w v last bits : ℕ) → IsSource w last bits → IsSource v last bits → IsGood w last → IsGood v last
    → (k : ℕ) → k < 6 → bit_at w k ≡ bit_at v k
same_parity w v last bits one two good_w good_v =
    let sums : SameSums (source w last) (source v last) = same_sums _ _ (λ n p q. sym (one.each n p q) ∙ two.each n p q) in
    six (λ k. bit_at w k ≡ bit_at v k)
    (even_same (bit_at w 0) (bit_at v 0) _ _ _ (bit_at-lt w 0) (bit_at-lt v 0) sums.d30 good_w.d30 good_v.d30)
    (even_same (bit_at w 1) (bit_at v 1) _ _ _ (bit_at-lt w 1) (bit_at-lt v 1) sums.d29 good_w.d29 good_v.d29)
    (even_same (bit_at w 2) (bit_at v 2) _ _ _ (bit_at-lt w 2) (bit_at-lt v 2) sums.d28 good_w.d28 good_v.d28)
    (even_same (bit_at w 3) (bit_at v 3) _ _ _ (bit_at-lt w 3) (bit_at-lt v 3) sums.d27 good_w.d27 good_v.d27)
    (even_same (bit_at w 4) (bit_at v 4) _ _ _ (bit_at-lt w 4) (bit_at-lt v 4) sums.d26 good_w.d26 good_v.d26)
    (even_same (bit_at w 5) (bit_at v 5) _ _ _ (bit_at-lt w 5) (bit_at-lt v 5) sums.d25 good_w.d25 good_v.d25)

-- the good word of these source bits is unique
pub one_word : (w v last bits : ℕ) → w < 2 ^ 30 → v < 2 ^ 30 → IsSource w last bits → IsSource v last bits → IsGood w last → IsGood v last → w ≡ v
one_word w v last bits fits_w fits_v one two good_w good_v =
    same_from_bits_below 30 w v fits_w fits_v (λ i h. elim (cases_lt i 6) [
      | inl low ↦ same_parity w v last bits one two good_w good_v i low
      | inr high ↦
          let back : 30 - (30 - i) ≡ i = omega arith in
          let same : source w last (30 - i) ≡ source v last (30 - i) =
          sym (one.each (30 - i) (omega arith) (omega arith)) ∙ two.each (30 - i) (omega arith) (omega arith) in
          let sent_same : sent w (30 - i) ≡ sent v (30 - i) =
          inverted_same (sent w (30 - i)) (sent v (30 - i)) (d30_star last) (bit_at-lt w _) (bit_at-lt v _) same in
          ap (bit_at w) (sym back) ∙ sent_same ∙ ap (bit_at v) back
    ])
