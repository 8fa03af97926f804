-- The parity bits by tables: each entry gives the parity bits of its byte alone, and the bits of four entries are added modulo 2.
use Rattle.std.proofs.Common.{◌≡◌, ℕ, zero, suc, ◌+◌, ◌*◌, ◌/◌, ◌%◌, ◌^◌, ◌<◌, ◌≤◌, Bool, true, nat_eq, ◌&&◌, List, [], ◌∷◌, length, get_or, bit_and, bit_xor, lit≤, refl, sym, ap, subst, ◌∙◌, arith, add-zero, zero-add}
use Rattle.std.specs.Int.{bit_at}
use Rattle.std.proofs.lemmas.Bool.{and_parts, eqb-true}
use Rattle.std.proofs.lemmas.Nat.{and_mask, shr-shr, shr_split, xor_lt}
use Rattle.std.proofs.lemmas.Nat.Bits.{bit_at_xor, bit_at_cat_low, same_from_bits_below}
use Rattle.lnav_subframe.specs.ParityMirrors.{IsParity, masked_sum}
use Rattle.lnav_subframe.specs.declared.parity.TheConstants.{LAST, HIGH, MIDDLE, LOW}
use Rattle.lnav_subframe.proofs.Equations.{parity_is, six, six_bits}

-- a table that passes the test has f at each index, counted from i
abbrev are_entries : (ℕ → ℕ) → ℕ → List ℕ → Bool
are_entries f i [] = true
are_entries f i (t ∷ ts) = nat_eq t (f i) && are_entries f (suc i) ts

entry_is : (f : ℕ → ℕ) (i : ℕ) (ts : List ℕ) → are_entries f i ts ≡ true → (k : ℕ) → k < length ts → get_or ts k 0 ≡ f (i + k)
entry_is f i [] right k h = absurd (omega arith)
entry_is f i (t ∷ ts) right zero h =
    let parts = and_parts (nat_eq t (f i)) (are_entries f (suc i) ts) right in
    eqb-true t (f i) parts.0 ∙ ap f (sym (add-zero i))
entry_is f i (t ∷ ts) right (suc k) h =
    let parts = and_parts (nat_eq t (f i)) (are_entries f (suc i) ts) right in
    let next : suc i + k ≡ i + suc k = omega arith in
    entry_is f (suc i) ts parts.1 k (omega arith) ∙ ap f next

-- six bits, one for each row, as one number
abbrev rows : (ℕ → ℕ) → ℕ
rows g = 32 * g 0x2EC7CD2 + 16 * g 0x1763E69 + 8 * g 0x2BB1F34 + 4 * g 0x15D8F9A + 2 * g 0x1AEC7CD + g 0x22DEA27

-- what k bits of a number give where they stand behind some bits
unfoldable code : ℕ → ℕ → ℕ → ℕ
code behind k n = rows (λ mask. masked_sum k (mask / 2 ^ behind) (bit_at n) % 2)

test_low : are_entries (code 0 8) 0 LOW ≡ true
unfolding code masked_sum
test_low = refl

test_middle : are_entries (code 8 8) 0 MIDDLE ≡ true
unfolding code masked_sum
test_middle = refl

test_high : are_entries (code 16 8) 0 HIGH ≡ true
unfolding code masked_sum
test_high = refl

test_last : are_entries (code 24 2) 0 LAST ≡ true
unfolding code masked_sum
test_last = refl

-- bits of a number that is cut
high_bit : (n k j : ℕ) → bit_at (n / 2 ^ k) j ≡ bit_at n (k + j)
high_bit n k j = ap (λ m. m % 2) (shr-shr n k j)

low_bit : (n k j : ℕ) → j < k → bit_at n j ≡ bit_at (n % 2 ^ k) j
low_bit n k j h = ap (λ m. bit_at m j) (sym (shr_split n k)) ∙ bit_at_cat_low (n / 2 ^ k) k (n % 2 ^ k) j h

-- and its masked sums
cut : (k j mask n : ℕ) → masked_sum (k + j) mask (bit_at n) ≡ masked_sum k mask (bit_at n) + masked_sum j (mask / 2 ^ k) (bit_at (n / 2 ^ k))
unfolding masked_sum
cut k zero mask n = ap (λ m. masked_sum m mask (bit_at n)) (add-zero k) ∙ sym (add-zero _)
cut k (suc j) mask n =
    let next : k + suc j ≡ suc (k + j) = omega arith in
    let one : masked_sum (k + suc j) mask (bit_at n) ≡ masked_sum (k + j) mask (bit_at n) + bit_at mask (k + j) * bit_at n (k + j) = ap (λ m. masked_sum m mask (bit_at n)) next in
    let digit : bit_at (mask / 2 ^ k) j * bit_at (n / 2 ^ k) j ≡ bit_at mask (k + j) * bit_at n (k + j) = λ i. high_bit mask k j i * high_bit n k j i in
    omega (arith, one, digit, cut k j mask n)

low_sum : (j k mask n : ℕ) → j ≤ k → masked_sum j mask (bit_at n) ≡ masked_sum j mask (bit_at (n % 2 ^ k))
unfolding masked_sum
low_sum zero k mask n h = refl
low_sum (suc j) k mask n h = λ i. low_sum j k mask n (omega arith) i + bit_at mask j * low_bit n k j (omega arith) i

both : {a b x y : ℕ} → a ≡ x → b ≡ y → a + b ≡ x + y
both p q = λ i. p i + q i

-- the sum of a row over 26 bits, in four parts
four : (mask n : ℕ)
    → masked_sum 26 mask (bit_at n) ≡ masked_sum 8 mask (bit_at (n % 256)) + (masked_sum 8 (mask / 2 ^ 8) (bit_at (n / 256 % 256)) + (masked_sum 8 (mask / 2 ^ 16) (bit_at (n / 65536 % 256)) + masked_sum 2 (mask / 2 ^ 24) (bit_at (n / 16777216))))
four mask n =
    let low = low_sum 8 8 mask n (lit≤ tt) in
    let middle = low_sum 8 8 (mask / 2 ^ 8) (n / 2 ^ 8) (lit≤ tt) in
    let high = low_sum 8 8 (mask / 2 ^ 16) (n / 2 ^ 16) (lit≤ tt) in
    let by_ten : masked_sum 18 (mask / 2 ^ 8) (bit_at (n / 2 ^ 8)) ≡ masked_sum 8 (mask / 2 ^ 8) (bit_at (n / 2 ^ 8)) + masked_sum 10 (mask / 2 ^ 16) (bit_at (n / 2 ^ 16)) =
    cut 8 10 (mask / 2 ^ 8) (n / 2 ^ 8) ∙ (λ i. masked_sum 8 (mask / 2 ^ 8) (bit_at (n / 2 ^ 8)) + masked_sum 10 (shr-shr mask 8 8 i) (bit_at (shr-shr n 8 8 i))) in
    let by_two : masked_sum 10 (mask / 2 ^ 16) (bit_at (n / 2 ^ 16)) ≡ masked_sum 8 (mask / 2 ^ 16) (bit_at (n / 2 ^ 16)) + masked_sum 2 (mask / 2 ^ 24) (bit_at (n / 2 ^ 24)) =
    cut 8 2 (mask / 2 ^ 16) (n / 2 ^ 16) ∙ (λ i. masked_sum 8 (mask / 2 ^ 16) (bit_at (n / 2 ^ 16)) + masked_sum 2 (shr-shr mask 16 8 i) (bit_at (shr-shr n 16 8 i))) in
    cut 8 18 mask n ∙ both low (by_ten ∙ both middle (by_two ∙ both high refl))

-- the masks of the rows, from D30 to D25
abbrev mask_at : ℕ → ℕ
mask_at j = get_or (0x22DEA27 ∷ 0x1AEC7CD ∷ 0x15D8F9A ∷ 0x2BB1F34 ∷ 0x1763E69 ∷ 0x2EC7CD2 ∷ []) j 0

-- the bits of the number of six bits
rows_fit : (g : ℕ → ℕ) → ((m : ℕ) → g m < 2) → rows g < 64
rows_fit g low = (six_bits _ _ _ _ _ _ (low 0x2EC7CD2) (low 0x1763E69) (low 0x2BB1F34) (low 0x15D8F9A) (low 0x1AEC7CD) (low 0x22DEA27)).0

rows_bit : (g : ℕ → ℕ) → ((m : ℕ) → g m < 2) → (j : ℕ) → j < 6 → bit_at (rows g) j ≡ g (mask_at j)
rows_bit g low =
    let bits = six_bits (g 0x2EC7CD2) (g 0x1763E69) (g 0x2BB1F34) (g 0x15D8F9A) (g 0x1AEC7CD) (g 0x22DEA27) (low 0x2EC7CD2) (low 0x1763E69) (low 0x2BB1F34) (low 0x15D8F9A) (low 0x1AEC7CD) (low 0x22DEA27) in
    six (λ j. bit_at (rows g) j ≡ g (mask_at j)) bits.6 bits.5 bits.4 bits.3 bits.2 bits.1

code_fits : (behind k n : ℕ) → code behind k n < 2 ^ 6
unfolding code
code_fits behind k n = rows_fit (λ mask. masked_sum k (mask / 2 ^ behind) (bit_at n) % 2) (λ m. omega arith)

code_bit : (behind k n x j : ℕ) → x ≡ code behind k n → j < 6 → bit_at x j ≡ masked_sum k (mask_at j / 2 ^ behind) (bit_at n) % 2
unfolding code
code_bit behind k n x j e h = ap (λ m. bit_at m j) e ∙ rows_bit (λ mask. masked_sum k (mask / 2 ^ behind) (bit_at n) % 2) (λ m. omega arith) j h

whole : (m : ℕ) → m / 2 ^ 0 ≡ m
whole m = omega arith

-- four bits that are added modulo 2
added : (x y z a b c d p q r s t : ℕ) → x ≡ (d + y) % 2 → y ≡ (c + z) % 2 → z ≡ (b + a) % 2 → a ≡ p % 2 → b ≡ q % 2 → c ≡ r % 2 → d ≡ s % 2 → t ≡ p + (q + (r + s)) → x ≡ t % 2
added x y z a b c d p q r s t ex ey ez ea eb ec ed et = omega arith

-- the four entries added modulo 2
looked_up : (n low middle high last : ℕ) → low ≡ code 0 8 (n % 256) → middle ≡ code 8 8 (n / 256 % 256) → high ≡ code 16 8 (n / 65536 % 256) → last ≡ code 24 2 (n / 16777216)
    → bit_xor last (bit_xor high (bit_xor middle low)) ≡ rows (λ mask. masked_sum 26 mask (bit_at n) % 2)
looked_up n low middle high last el em eh es =
    let fits : (x behind k m : ℕ) → x ≡ code behind k m → x < 2 ^ 6 = λ x behind k m e. subst (λ v. v < 2 ^ 6) (sym e) (code_fits behind k m) in
    let third = xor_lt 6 middle low (fits middle _ _ _ em) (fits low _ _ _ el) in
    let second = xor_lt 6 high (bit_xor middle low) (fits high _ _ _ eh) third in
    let first = xor_lt 6 last (bit_xor high (bit_xor middle low)) (fits last _ _ _ es) second in
    let all : ℕ → ℕ = λ mask. masked_sum 26 mask (bit_at n) % 2 in
    same_from_bits_below 6 _ (rows all) first (rows_fit all (λ m. omega arith)) (λ j h.
    added _ _ _ _ _ _ _ _ _ _ _ (masked_sum 26 (mask_at j) (bit_at n)) (bit_at_xor last _ j) (bit_at_xor high _ j) (bit_at_xor middle low j)
    (code_bit 0 8 _ low j el h ∙ ap (λ m. masked_sum 8 m (bit_at (n % 256)) % 2) (whole (mask_at j))) (code_bit 8 8 _ middle j em h) (code_bit 16 8 _ high j eh h) (code_bit 24 2 _ last j es h) (four (mask_at j) n)
    ∙ sym (rows_bit all (λ m. omega arith) j h))

-- the parity bits of the source bits
pub parity_looked_up : (bits last : ℕ) → bits < 2 ^ 24 → last < 4
    → IsParity bits last (bit_xor (get_or LAST last 0) (bit_xor (get_or HIGH (bits / 2 ^ 16) 0) (bit_xor (get_or MIDDLE (bit_and (bits / 2 ^ 8) 255) 0) (get_or LOW (bit_and bits 255) 0))))
parity_looked_up bits last fits below =
    let n = last * 2 ^ 24 + bits in
    let low : bit_and bits 255 ≡ n % 256 = and_mask bits 8 ∙ omega arith in
    let middle : bit_and (bits / 2 ^ 8) 255 ≡ n / 256 % 256 = and_mask (bits / 2 ^ 8) 8 ∙ omega arith in
    let high : bits / 2 ^ 16 ≡ n / 65536 % 256 = omega arith in
    let first : last ≡ n / 16777216 = omega arith in
    subst (IsParity bits last) (sym (looked_up n _ _ _ _
    (entry_is (code 0 8) 0 LOW test_low _ (omega (arith, low)) ∙ ap (code 0 8) (zero-add _ ∙ low))
    (entry_is (code 8 8) 0 MIDDLE test_middle _ (omega (arith, middle)) ∙ ap (code 8 8) (zero-add _ ∙ middle))
    (entry_is (code 16 8) 0 HIGH test_high _ (omega (arith, high)) ∙ ap (code 16 8) (zero-add _ ∙ high))
    (entry_is (code 24 2) 0 LAST test_last _ (omega arith) ∙ ap (code 24 2) (zero-add _ ∙ first))))
    (parity_is bits last _ _ _ _ _ _ fits refl refl refl refl refl refl)
