-- Theorems on bit fields, which proofs about layouts, checksums and messages cite.
use Rattle.std.proofs.Common.{◌≡◌, ℕ, zero, suc, ◌+◌, ◌-◌, ◌*◌, ◌/◌, ◌%◌, ◌^◌, ◌<◌, ◌≤◌, List, slice_index, nat_le, true, replicate, refl, sym, ap, ◌∙◌, arith}
use Rattle.std.proofs.Math.Nat.{pow-suc, mod-one, mod-eq_of_lt}
use Rattle.std.proofs.lemmas.Nat.{shr-shr, mod-pow-add}
use Rattle.std.proofs.lemmas.Nat.Bits.{bit_at-lt, bit_at-zero}
use Rattle.std.proofs.lemmas.Bool.{leb-true}
use Rattle.std.specs.Int.{bit_at}
use Rattle.nav_bits.specs.Bits.{bit, number_at, signed_at, SameInside, SameOutside}
use Rattle.nav_bits.specs.Signed.{signed_of}

-- two adjacent fields read as one
pub number_at-append : (bytes : List ℕ) (at v w : ℕ) → number_at bytes at (v + w) ≡ number_at bytes at v * 2 ^ w + number_at bytes (at + v) w
unfolding number_at
number_at-append bytes at v zero = let e : v + 0 ≡ v = omega arith in rw e (omega arith)
number_at-append bytes at v (suc w) =
    let e : v + suc w ≡ suc (v + w) = omega arith in
    let place : bit bytes (at + (v + w)) ≡ bit bytes (at + v + w) = ap (bit bytes) (omega arith) in
    rw (e, pow-suc 2 w) (omega (arith, place, number_at-append bytes at v w))

-- a number shifted right by one bit less has one bit more
pub shr_more : (x m : ℕ) → x / 2 ^ m ≡ x / 2 ^ suc m * 2 + bit_at x m
shr_more x m =
    let e : m + 1 ≡ suc m = omega arith in
    let half : x / 2 ^ m / 2 ≡ x / 2 ^ suc m = shr-shr x m 1 ∙ ap (λ n. x / 2 ^ n) e in
    rw (← half) (omega arith)

-- the same for the low k bits
pub shr_more-mod : (x m k : ℕ) → x / 2 ^ m % 2 ^ suc k ≡ (x / 2 ^ suc m % 2 ^ k) * 2 + bit_at x m
shr_more-mod x m k =
    let e : suc k ≡ k + 1 = omega arith in
    let e' : m + 1 ≡ suc m = omega arith in
    let half : x / 2 ^ m / 2 ≡ x / 2 ^ suc m = shr-shr x m 1 ∙ ap (λ n. x / 2 ^ n) e' in
    ap (λ n. x / 2 ^ m % 2 ^ n) e ∙ mod-pow-add (x / 2 ^ m) k 1 ∙ ap (λ h. (h % 2 ^ k) * 2 + bit_at x m) half

-- a field within one byte
pub number_at-part : (bytes : List ℕ) (at skip byte k : ℕ) → at % 8 ≡ skip → at / 8 ≡ byte → skip + k ≤ 8
    → number_at bytes at k ≡ slice_index bytes byte / 2 ^ (8 - skip - k) % 2 ^ k
unfolding number_at bit
number_at-part bytes at skip byte zero s b h = sym (mod-one _)
number_at-part bytes at skip byte (suc k) s b h =
    let quotient : (at + k) / 8 ≡ byte = omega arith in
    let rest : 7 - (at + k) % 8 ≡ 8 - skip - suc k = omega arith in
    let high : 8 - skip - k ≡ suc (8 - skip - suc k) = omega arith in
    let x = slice_index bytes byte in
    let before : number_at bytes at k ≡ x / 2 ^ suc (8 - skip - suc k) % 2 ^ k =
    number_at-part bytes at skip byte k s b (omega arith) ∙ ap (λ e. x / 2 ^ e % 2 ^ k) high in
    let digit : bit bytes (at + k) ≡ bit_at x (8 - skip - suc k) =
    ap (λ q. bit_at (slice_index bytes q) (7 - (at + k) % 8)) quotient ∙ ap (bit_at x) rest in
    let sums : number_at bytes at k * 2 + bit bytes (at + k) ≡ (x / 2 ^ suc (8 - skip - suc k) % 2 ^ k) * 2 + bit_at x (8 - skip - suc k) =
    omega arith in
    sums ∙ sym (shr_more-mod x (8 - skip - suc k) k)

-- the eight bits of a byte give the byte
pub number_at-byte : (bytes : List ℕ) (i : ℕ) → slice_index bytes i < 256 → number_at bytes (8 * i) 8 ≡ slice_index bytes i
number_at-byte bytes i h =
    number_at-part bytes (8 * i) 0 i 8 (omega arith) (omega arith) (omega arith) ∙ (let e : slice_index bytes i / 1 ≡ slice_index bytes i = omega arith in rw e (mod-eq_of_lt h))

pub bit-lt : (bytes : List ℕ) (i : ℕ) → bit bytes i < 2
unfolding bit
bit-lt bytes i = bit_at-lt (slice_index bytes (i / 8)) (7 - i % 8)

-- a value of w bits is below 2 ^ w
pub number_at-lt : (bytes : List ℕ) (at w : ℕ) → number_at bytes at w < 2 ^ w
unfolding number_at
number_at-lt bytes at zero = omega arith
number_at-lt bytes at (suc w) = rw (pow-suc 2 w) (omega (arith, number_at-lt bytes at w, bit-lt bytes (at + w)))

-- a field depends on its own bits only
pub number_at-same : (a b : List ℕ) (at w : ℕ) → SameInside a b at (at + w) → number_at a at w ≡ number_at b at w
unfolding number_at
number_at-same a b at zero same = refl
number_at-same a b at (suc w) same =
    let here : bit a (at + w) ≡ bit b (at + w) = same.same (at + w) (omega arith) (omega arith) in
    let before : number_at a at w ≡ number_at b at w = number_at-same a b at w (record { same = λ i low high. same.same i low (omega arith) }) in
    omega arith

pub signed_at-same : (a b : List ℕ) (at w : ℕ) → SameInside a b at (at + w) → signed_at a at w ≡ signed_at b at w
signed_at-same a b at w same = ap (signed_of w) (number_at-same a b at w same)

-- a field inside a run of bits depends on that run only
pub number_within : (a b : List ℕ) (at bits : ℕ) → SameInside a b at (at + bits) → (from w : ℕ) → nat_le (from + w) bits ≡ true
    → number_at a (at + from) w ≡ number_at b (at + from) w
number_within a b at bits same from w fits = number_at-same a b (at + from) w (record { same = λ i low high. same.same i (omega arith) (omega (arith, leb-true (from + w) bits fits)) })

-- fields after the changed bits keep their values
pub number_at-after : (old new : List ℕ) (at end : ℕ) → SameOutside old new at end → (from w : ℕ) → end ≤ from
    → number_at new from w ≡ number_at old from w
number_at-after old new at end same from w h = number_at-same new old from w (record { same = λ i low high. same.after i (omega arith) })

-- fields before the changed bits keep their values
pub number_at-before : (old new : List ℕ) (at end : ℕ) → SameOutside old new at end → (from w : ℕ) → from + w ≤ at
    → number_at new from w ≡ number_at old from w
number_at-before old new at end same from w h = number_at-same new old from w (record { same = λ i low high. same.before i (omega arith) })

slice_index-zero : (n i : ℕ) → slice_index (replicate n 0) i ≡ 0
slice_index-zero zero i = refl
slice_index-zero (suc n) zero = refl
slice_index-zero (suc n) (suc i) = slice_index-zero n i

-- a field of zero bytes is 0
pub number_at-zero : (n at w : ℕ) → number_at (replicate n 0) at w ≡ 0
unfolding number_at bit
number_at-zero n at zero = refl
number_at-zero n at (suc w) =
    rw (number_at-zero n at w, slice_index-zero n ((at + w) / 8)) (omega (arith, bit_at-zero (7 - (at + w) % 8)))
