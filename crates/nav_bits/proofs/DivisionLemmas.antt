-- The register holds the remainder of the division, and there is exactly one.
use Rattle.std.proofs.Common.{◌≡◌, ℕ, zero, suc, ◌+◌, ◌*◌, ◌/◌, ◌%◌, ◌^◌, ◌<◌, Bool, true, false, if◌then◌else◌, List, [], ◌∷◌, refl, sym, ap, subst, ◌∙◌, arith}
use Rattle.std.proofs.Math.Nat.{pow-suc, mul_assoc, mul_comm, add-mul}
use Rattle.std.proofs.lemmas.Nat.{xor_comm, xor_lt, xor_shr, shl_below, pow-add}
use Rattle.std.specs.Int.Bits.{bit_xor, xor_assoc, xor_self, xor_zero_l, xor_zero_r}
use lib.Arith.{bin_ind}
use lib.Bits.{xor_shifted}
use Rattle.nav_bits.specs.Division.{generator, times_generator, IsCrc}
use Rattle.nav_bits.specs.Register.{stepped, shift, with_byte_of}
use Rattle.nav_bits.proofs.SumLaws.{regroup, cancel, same_from_zero, xor-mul_pow}
use Rattle.nav_bits.proofs.RegisterLaws.{stepped-lt, shift-xor, shift_small}

-- x times a multiple, plus the generator where the highest bit of r is 1
step_of : ℕ → List Bool → List Bool
step_of zero q = false ∷ q
step_of (suc n) q = true ∷ q

times_step : (top : ℕ) (q : List Bool) → top < 2 → times_generator (step_of top q) ≡ bit_xor (times_generator q * 2) (top * generator)
unfolding times_generator step_of
times_step zero q h = refl
times_step (suc zero) q h = refl
times_step (suc (suc n)) q h = absurd (omega arith)

-- the number with one more bit, and the sum shifted with it
moved_sum : (p r b t : ℕ) → b < 2 → bit_xor ((p * 2 + b) * 2 ^ 24) (bit_xor (bit_xor r (b * 2 ^ 23) * 2) t) ≡ bit_xor (bit_xor (p * 2 ^ 24) r * 2) t
moved_sum p r b t h =
    let left : (p * 2 + b) * 2 ^ 24 ≡ bit_xor (p * 2 * 2 ^ 24) (b * 2 ^ 24) =
    ap (λ n. n * 2 ^ 24) (sym (xor_shifted p 1 b h)) ∙ xor-mul_pow 24 (p * 2) b in
    let places : b * 2 ^ 23 * 2 ≡ b * 2 ^ 24 = omega arith in
    let right : bit_xor r (b * 2 ^ 23) * 2 ≡ bit_xor (b * 2 ^ 24) (r * 2) =
    xor-mul_pow 1 r (b * 2 ^ 23) ∙ ap (bit_xor (r * 2)) places ∙ xor_comm (r * 2) (b * 2 ^ 24) in
    let prefix : p * 2 * 2 ^ 24 ≡ p * 2 ^ 24 * 2 = omega arith in
    ap (λ n. bit_xor n (bit_xor (bit_xor r (b * 2 ^ 23) * 2) t)) left
    ∙ ap (λ n. bit_xor (bit_xor (p * 2 * 2 ^ 24) (b * 2 ^ 24)) (bit_xor n t)) right
    ∙ ap (bit_xor (bit_xor (p * 2 * 2 ^ 24) (b * 2 ^ 24))) (xor_assoc (b * 2 ^ 24) (r * 2) t)
    ∙ xor_assoc (p * 2 * 2 ^ 24) (b * 2 ^ 24) (bit_xor (b * 2 ^ 24) (bit_xor (r * 2) t))
    ∙ ap (bit_xor (p * 2 * 2 ^ 24)) (cancel (b * 2 ^ 24) (bit_xor (r * 2) t))
    ∙ sym (xor_assoc (p * 2 * 2 ^ 24) (r * 2) t)
    ∙ ap (λ n. bit_xor (bit_xor n (r * 2)) t) prefix
    ∙ ap (λ n. bit_xor n t) (sym (xor-mul_pow 1 (p * 2 ^ 24) r))

pub with_digit : (p r b : ℕ) → b < 2 → IsCrc p r → IsCrc (p * 2 + b) (stepped (bit_xor r (b * 2 ^ 23)))
unfolding stepped
with_digit p r b h is =
    let inside : bit_xor r (b * 2 ^ 23) < 2 ^ 24 = xor_lt 24 r (b * 2 ^ 23) is.fits (omega arith) in
    record {
      fits = stepped_fits (bit_xor r (b * 2 ^ 23)) inside;
      multiple = (
        step_of (bit_xor r (b * 2 ^ 23) / 2 ^ 23) is.multiple.0,
        times_step (bit_xor r (b * 2 ^ 23) / 2 ^ 23) is.multiple.0 (omega arith)
            ∙ ap (λ n. bit_xor (n * 2) (bit_xor r (b * 2 ^ 23) / 2 ^ 23 * generator)) is.multiple.1
            ∙ sym (moved_sum p r b (bit_xor r (b * 2 ^ 23) / 2 ^ 23 * generator) h),
      );
    }
  where
    stepped_fits : (n : ℕ) → n < 2 ^ 24 → bit_xor (n * 2) (n / 2 ^ 23 * generator) < 2 ^ 24
    stepped_fits n less = stepped-lt n less

-- the last of some bits reaches the head when those before it are shifted out
last_bit : (k j r v : ℕ) → suc k + j ≡ 24 → v < 2 ^ suc k → r < 2 ^ 24 → shift k (bit_xor r (v * 2 ^ j)) ≡ bit_xor (shift k (bit_xor r (v / 2 * 2 ^ suc j))) (v % 2 * 2 ^ 23)
last_bit k j r v e h fits =
    let half : v / 2 < 2 ^ k = omega (arith, pow-suc 2 k) in
    let digit : v % 2 < 2 ^ 1 = omega arith in
    let bit_fits : v % 2 < 2 ^ suc k = omega arith in
    let places : k + suc j ≡ 24 = omega arith in
    let high : v / 2 * 2 ^ suc j < 2 ^ 24 = subst (λ n. v / 2 * 2 ^ suc j < 2 ^ n) places (shl_below (v / 2) k (suc j) half) in
    let low : v % 2 * 2 ^ j < 2 ^ 24 = subst (λ n. v % 2 * 2 ^ j < 2 ^ n) e (shl_below (v % 2) (suc k) j bit_fits) in
    let one_more : 1 + j ≡ suc j = omega arith in
    let below : v % 2 * 2 ^ j < 2 ^ suc j = subst (λ n. v % 2 * 2 ^ j < 2 ^ n) one_more (shl_below (v % 2) 1 j digit) in
    let doubled : v / 2 * 2 ^ suc j ≡ v / 2 * 2 * 2 ^ j =
    ap (λ n. v / 2 * n) (pow-suc 2 j ∙ mul_comm (2 ^ j) 2) ∙ sym (mul_assoc (v / 2) 2 (2 ^ j)) in
    let whole : v / 2 * 2 + v % 2 ≡ v = omega arith in
    let sum : v / 2 * 2 ^ suc j + v % 2 * 2 ^ j ≡ v * 2 ^ j =
    ap (λ n. n + v % 2 * 2 ^ j) doubled ∙ sym (add-mul (v / 2 * 2) (v % 2) (2 ^ j)) ∙ ap (λ n. n * 2 ^ j) whole in
    let parts : v * 2 ^ j ≡ bit_xor (v / 2 * 2 ^ suc j) (v % 2 * 2 ^ j) =
    sym (xor_shifted (v / 2) (suc j) (v % 2 * 2 ^ j) below ∙ sum) in
    let rest : j + k ≡ 23 = omega arith in
    let head : v % 2 * 2 ^ j * 2 ^ k ≡ v % 2 * 2 ^ 23 =
    mul_assoc (v % 2) (2 ^ j) (2 ^ k) ∙ ap (λ n. v % 2 * n) (sym (pow-add 2 j k) ∙ ap (λ n. 2 ^ n) rest) in
    ap (λ n. shift k (bit_xor r n)) parts
    ∙ ap (shift k) (sym (xor_assoc r (v / 2 * 2 ^ suc j) (v % 2 * 2 ^ j)))
    ∙ shift-xor k (bit_xor r (v / 2 * 2 ^ suc j)) (v % 2 * 2 ^ j) (xor_lt 24 r (v / 2 * 2 ^ suc j) fits high) low
    ∙ ap (bit_xor (shift k (bit_xor r (v / 2 * 2 ^ suc j)))) (shift_small k (suc j) (v % 2 * 2 ^ j) places below ∙ head)

-- k more bits, whose value is v
pub with_bits : (k j p r v : ℕ) → k + j ≡ 24 → v < 2 ^ k → IsCrc p r → IsCrc (p * 2 ^ k + v) (shift k (bit_xor r (v * 2 ^ j)))
unfolding shift
with_bits zero j p r v e h is =
    let none : v ≡ 0 = omega arith in
    let number : p ≡ p * 2 ^ 0 + v = omega arith in
    let state : r ≡ bit_xor r (v * 2 ^ j) = sym (ap (λ n. bit_xor r (n * 2 ^ j)) none ∙ ap (bit_xor r) (zero_times (2 ^ j)) ∙ xor_zero_r r) in
    subst (λ n. IsCrc n (bit_xor r (v * 2 ^ j))) number (subst (λ n. IsCrc p n) state is)
  where
    zero_times : (n : ℕ) → 0 * n ≡ 0
    zero_times n = omega arith
with_bits (suc k) j p r v e h is =
    let half : v / 2 < 2 ^ k = omega (arith, pow-suc 2 k) in
    let before : IsCrc (p * 2 ^ k + v / 2) (shift k (bit_xor r (v / 2 * 2 ^ suc j))) =
    with_bits k (suc j) p r (v / 2) (omega arith) half is in
    let number : (p * 2 ^ k + v / 2) * 2 + v % 2 ≡ p * 2 ^ suc k + v =
    omega (arith, ap (λ n. p * n) (pow-suc 2 k) ∙ sym (mul_assoc p (2 ^ k) 2)) in
    subst (λ n. IsCrc n (stepped (shift k (bit_xor r (v * 2 ^ j))))) number
    (subst (λ n. IsCrc ((p * 2 ^ k + v / 2) * 2 + v % 2) (stepped n)) (sym (last_bit k j r v e h is.fits))
    (with_digit (p * 2 ^ k + v / 2) (shift k (bit_xor r (v / 2 * 2 ^ suc j))) (v % 2) (omega arith) before))

pub zero_is : IsCrc 0 0
unfolding times_generator
zero_is = record { fits = omega arith; multiple = ([], refl) }

-- every number has a CRC
pub has_crc : (p : ℕ) → (r : ℕ) × IsCrc p r
has_crc = bin_ind (λ n. (r : ℕ) × IsCrc n r) (0, zero_is) (λ n before. (stepped (bit_xor before.0 (n % 2 * 2 ^ 23)), subst (λ m. IsCrc m (stepped (bit_xor before.0 (n % 2 * 2 ^ 23)))) (halves n) (with_digit (n / 2) before.0 (n % 2) (omega arith) before.1)))
  where
    halves : (n : ℕ) → n / 2 * 2 + n % 2 ≡ n
    halves n = omega arith

-- ---- one remainder

other : Bool → Bool → Bool
other true true = false
other true false = true
other false z = z

-- the coefficients of a sum
pub sum_of : List Bool → List Bool → List Bool
sum_of [] b = b
sum_of (x ∷ a) [] = x ∷ a
sum_of (x ∷ a) (y ∷ b) = other x y ∷ sum_of a b

bit_sum : (x y : Bool) → (if other x y then generator else 0) ≡ bit_xor (if x then generator else 0) (if y then generator else 0)
unfolding other
bit_sum true true = refl
bit_sum true false = refl
bit_sum false true = refl
bit_sum false false = refl

pub times_sum : (a b : List Bool) → times_generator (sum_of a b) ≡ bit_xor (times_generator a) (times_generator b)
unfolding times_generator sum_of
times_sum [] b = sym (xor_zero_l (times_generator b))
times_sum (x ∷ a) [] = sym (xor_zero_r (times_generator (x ∷ a)))
times_sum (x ∷ a) (y ∷ b) =
    ap (λ n. bit_xor (n * 2) (if other x y then generator else 0)) (times_sum a b)
    ∙ ap (λ n. bit_xor n (if other x y then generator else 0)) (xor-mul_pow 1 (times_generator a) (times_generator b))
    ∙ ap (bit_xor (bit_xor (times_generator a * 2) (times_generator b * 2))) (bit_sum x y)
    ∙ regroup (times_generator a * 2) (times_generator b * 2) (if x then generator else 0) (if y then generator else 0)

bits_below : (t c : ℕ) → c < 2 ^ 25 → bit_xor (t * 2) c < 2 ^ 24 → t < 2 ^ 24
bits_below t c small h =
    let none : c / 2 ^ 25 ≡ 0 = omega arith in
    let top : bit_xor (t * 2) c / 2 ^ 25 ≡ t * 2 / 2 ^ 25 =
    xor_shr (t * 2) c 25 ∙ ap (bit_xor (t * 2 / 2 ^ 25)) none ∙ xor_zero_r (t * 2 / 2 ^ 25) in
    omega (arith, top)

alone : (t c : ℕ) → t ≡ 0 → bit_xor (t * 2) c ≡ c
alone t c e = ap (λ n. bit_xor (n * 2) c) e

-- the only multiple of the generator with fewer bits is 0
small_multiple : (q : List Bool) → times_generator q < 2 ^ 24 → times_generator q ≡ 0
unfolding times_generator
small_multiple [] h = refl
small_multiple (true ∷ q) h =
    let rest : times_generator q ≡ 0 = small_multiple q (bits_below (times_generator q) generator (omega arith) h) in
    absurd (omega (arith, alone (times_generator q) generator rest))
small_multiple (false ∷ q) h =
    alone (times_generator q) 0 (small_multiple q (bits_below (times_generator q) 0 (omega arith) h))

pub one_remainder : (p r s : ℕ) → IsCrc p r → IsCrc p s → r ≡ s
one_remainder p r s first second =
    let a : List Bool = first.multiple.0 in
    let b : List Bool = second.multiple.0 in
    let sum : times_generator (sum_of a b) ≡ bit_xor r s =
    times_sum a b ∙ ap (λ n. bit_xor n (times_generator b)) first.multiple.1 ∙ ap (bit_xor (bit_xor (p * 2 ^ 24) r)) second.multiple.1
    ∙ regroup (p * 2 ^ 24) r (p * 2 ^ 24) s ∙ ap (λ n. bit_xor n (bit_xor r s)) (xor_self (p * 2 ^ 24)) ∙ xor_zero_l (bit_xor r s) in
    let small : times_generator (sum_of a b) < 2 ^ 24 = subst (λ n. n < 2 ^ 24) (sym sum) (xor_lt 24 r s first.fits second.fits) in
    same_from_zero r s (sym sum ∙ small_multiple (sum_of a b) small)

-- one byte more
pub with_byte_grows : (p r x : ℕ) → IsCrc p r → IsCrc (p * 256 + x % 256) (with_byte_of r x)
unfolding with_byte_of
with_byte_grows p r x is = with_bits 8 16 p r (x % 256) refl (omega arith) is
