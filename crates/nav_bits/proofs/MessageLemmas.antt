-- The register over the bytes of a message holds its CRC; the same for runs of bits.
use Rattle.std.proofs.Common.{◌≡◌, ℕ, zero, suc, ◌+◌, ◌-◌, ◌*◌, ◌/◌, ◌%◌, ◌^◌, ◌<◌, ◌≤◌, List, [], ◌∷◌, ◌++◌, length, take, get_or, slice_index, sym, ap, subst, ◌∙◌, arith}
use Rattle.std.proofs.lemmas.List.{take_more, take_all}
use Rattle.std.proofs.Math.Nat.{mod-eq_of_lt, pow-suc, mul_assoc}
use Rattle.std.proofs.lemmas.Nat.{and_mask, or_shifted, mod_below, pow_pos, shl_below, shr_below}
use Rattle.std.proofs.lemmas.Nat.Bits.{ones_shr, shr_and_one}
use Rattle.std.specs.Int.{bit_at}
use Rattle.std.specs.Int.Bits.{bit_and, bit_or, bit_xor}
use Rattle.nav_bits.specs.Bits.{bit, number_at}
use Rattle.nav_bits.specs.Laws.{number_at-append, number_at-part, number_at-byte, number_at-lt}
use Rattle.nav_bits.specs.Division.{IsCrc}
use Rattle.nav_bits.specs.Register.{shift, with_byte_of, crc_from}
use Rattle.nav_bits.proofs.RegisterLaws.{crc_from-append, crc_from-lt, crc_from-parts}
use Rattle.nav_bits.proofs.DivisionLemmas.{zero_is, with_byte_grows, one_remainder}

-- a byte of a list, whatever its number
byte_number : (bytes : List ℕ) (i : ℕ) → number_at bytes (0 + 8 * i) 8 ≡ slice_index bytes i % 256
byte_number bytes i =
    let start : 0 + 8 * i ≡ 8 * i = omega arith in
    let whole : slice_index bytes i / 2 ^ 0 ≡ slice_index bytes i = omega arith in
    ap (λ n. number_at bytes n 8) start ∙ number_at-part bytes (8 * i) 0 i 8 (omega arith) (omega arith) (omega arith) ∙ ap (λ n. n % 256) whole

crc_of_first : (bytes : List ℕ) (k : ℕ) → k ≤ length bytes → IsCrc (number_at bytes 0 (8 * k)) (crc_from 0 (take k bytes))
unfolding number_at crc_from
crc_of_first bytes zero h = zero_is
crc_of_first bytes (suc k) h =
    let before : IsCrc (number_at bytes 0 (8 * k)) (crc_from 0 (take k bytes)) = crc_of_first bytes k (omega arith) in
    let count : 8 * suc k ≡ 8 * k + 8 = omega arith in
    let number : number_at bytes 0 (8 * k) * 256 + slice_index bytes k % 256 ≡ number_at bytes 0 (8 * suc k) =
    sym (ap (number_at bytes 0) count ∙ number_at-append bytes 0 (8 * k) 8 ∙ ap (λ n. number_at bytes 0 (8 * k) * 256 + n) (byte_number bytes k)) in
    let place : k + 1 ≡ suc k = omega arith in
    let state : with_byte_of (crc_from 0 (take k bytes)) (slice_index bytes k) ≡ crc_from 0 (take (suc k) bytes) =
    sym (ap (λ n. crc_from 0 (take n bytes)) (sym place) ∙ ap (crc_from 0) (take_more bytes k 0 (omega arith))
    ∙ crc_from-append 0 (take k bytes) (get_or bytes k 0 ∷ [])) in
    subst (λ n. IsCrc n (crc_from 0 (take (suc k) bytes))) number
    (subst (λ n. IsCrc (number_at bytes 0 (8 * k) * 256 + slice_index bytes k % 256) n) state
    (with_byte_grows (number_at bytes 0 (8 * k)) (crc_from 0 (take k bytes)) (slice_index bytes k) before))

pub crc_of_bytes : (bytes : List ℕ) → IsCrc (number_at bytes 0 (8 * length bytes)) (crc_from 0 bytes)
crc_of_bytes bytes =
    subst (λ xs. IsCrc (number_at bytes 0 (8 * length bytes)) (crc_from 0 xs)) (take_all (length bytes) bytes (omega arith))
    (crc_of_first bytes (length bytes) (omega arith))

pub joined : (xs ys : List ℕ) → crc_from 0 (xs ++ ys) ≡ bit_xor (shift (8 * length ys) (crc_from 0 xs)) (crc_from 0 ys)
joined xs ys = crc_from-append 0 xs ys ∙ crc_from-parts (crc_from 0 xs) ys (crc_from-lt 0 xs (omega arith))

pub same_bits : (bytes run : List ℕ) (from r : ℕ) → number_at run from (8 * length bytes) ≡ number_at bytes 0 (8 * length bytes)
    → IsCrc (number_at run from (8 * length bytes)) r → r ≡ crc_from 0 bytes
same_bits bytes run from r same is =
    one_remainder (number_at bytes 0 (8 * length bytes)) r (crc_from 0 bytes) (subst (λ n. IsCrc n r) same is) (crc_of_bytes bytes)

-- ---- eight bits across two bytes

pub aligned_byte : (bytes : List ℕ) (byte skip : ℕ) → slice_index bytes byte < 256 → 0 ≡ skip → slice_index bytes byte ≡ number_at bytes (8 * byte + skip) 8
aligned_byte bytes byte skip fits none =
    let place : 8 * byte + skip ≡ 8 * byte = omega arith in
    sym (ap (λ n. number_at bytes n 8) place ∙ number_at-byte bytes byte fits)

pub split_byte : (bytes : List ℕ) (byte skip : ℕ) → slice_index bytes byte < 256 → slice_index bytes (byte + 1) < 256 → skip < 8
    → bit_or (bit_and (slice_index bytes byte) (255 / 2 ^ skip) * 2 ^ skip % 256) (slice_index bytes (byte + 1) / 2 ^ (8 - skip))
    ≡ number_at bytes (8 * byte + skip) 8
split_byte bytes byte skip high_fits low_fits h =
    let rest : ℕ = 8 - skip in
    let x : ℕ = slice_index bytes byte in
    let y : ℕ = slice_index bytes (byte + 1) in
    let at : ℕ = 8 * byte + skip in
    let whole : rest + skip ≡ 8 = omega arith in
    let back : skip + rest ≡ 8 = omega arith in
    let none : 8 - skip - rest ≡ 0 = omega arith in
    let next : at + rest ≡ 8 * (byte + 1) = omega arith in
    let masked : bit_and x (255 / 2 ^ skip) ≡ x % 2 ^ rest = ap (bit_and x) (ones_shr 8 skip (omega arith)) ∙ and_mask x rest in
    let digits : x % 2 ^ rest < 2 ^ rest = mod_below x (2 ^ rest) (pow_pos rest) in
    let room : x % 2 ^ rest * 2 ^ skip < 2 ^ 8 = subst (λ n. x % 2 ^ rest * 2 ^ skip < 2 ^ n) whole (shl_below (x % 2 ^ rest) rest skip digits) in
    let inside : y < 2 ^ (skip + rest) = subst (λ n. y < 2 ^ n) (sym back) low_fits in
    let low : y / 2 ^ rest < 2 ^ skip = shr_below y skip rest inside in
    let one : x / 2 ^ 0 ≡ x = omega arith in
    let high_part : number_at bytes at rest ≡ x % 2 ^ rest =
    number_at-part bytes at skip byte rest (omega arith) (omega arith) (omega arith) ∙ ap (λ n. x / 2 ^ n % 2 ^ rest) none ∙ ap (λ n. n % 2 ^ rest) one in
    let low_part : number_at bytes (at + rest) skip ≡ y / 2 ^ rest =
    ap (λ n. number_at bytes n skip) next ∙ number_at-part bytes (8 * (byte + 1)) 0 (byte + 1) skip (omega arith) (omega arith) (omega arith)
    ∙ mod-eq_of_lt low in
    ap (λ n. bit_or (n * 2 ^ skip % 256) (y / 2 ^ rest)) masked ∙ ap (λ n. bit_or n (y / 2 ^ rest)) (mod-eq_of_lt room)
    ∙ or_shifted (x % 2 ^ rest) skip (y / 2 ^ rest) low
    ∙ sym (ap (number_at bytes at) (sym whole) ∙ number_at-append bytes at rest skip ∙ ap (λ n. n * 2 ^ skip + number_at bytes (at + rest) skip) high_part
    ∙ ap (λ n. x % 2 ^ rest * 2 ^ skip + n) low_part)

-- ---- one step of each loop

pub byte_more : (bytes : List ℕ) (from i state byte next : ℕ) → IsCrc (number_at bytes from (8 * i)) state → byte ≡ number_at bytes (8 * (from / 8 + i) + from % 8) 8
    → next ≡ with_byte_of state byte → IsCrc (number_at bytes from (8 * (i + 1))) next
byte_more bytes from i state byte next is byte_is next_is =
    let place : 8 * (from / 8 + i) + from % 8 ≡ from + 8 * i = omega arith in
    let count : 8 * (i + 1) ≡ 8 * i + 8 = omega arith in
    let here : byte ≡ number_at bytes (from + 8 * i) 8 = byte_is ∙ ap (λ n. number_at bytes n 8) place in
    let fits : byte < 256 = subst (λ n. n < 256) (sym here) (number_at-lt bytes (from + 8 * i) 8) in
    let low : byte % 256 ≡ byte = mod-eq_of_lt fits in
    let number : number_at bytes from (8 * i) * 256 + byte % 256 ≡ number_at bytes from (8 * (i + 1)) =
    ap (λ n. number_at bytes from (8 * i) * 256 + n) (low ∙ here) ∙ sym (ap (number_at bytes from) count ∙ number_at-append bytes from (8 * i) 8) in
    subst (λ n. IsCrc n next) number
    (subst (λ n. IsCrc (number_at bytes from (8 * i) * 256 + byte % 256) n) (sym next_is) (with_byte_grows (number_at bytes from (8 * i)) state byte is))

-- one more bit after those taken
pub bit_more : (bytes : List ℕ) (p at k bit' next : ℕ) → bit' ≡ bit bytes (at + k)
    → IsCrc ((p * 2 ^ k + number_at bytes at k) * 2 + bit') next → IsCrc (p * 2 ^ (k + 1) + number_at bytes at (k + 1)) next
unfolding number_at
bit_more bytes p at k bit' next bit_is is =
    let count : k + 1 ≡ suc k = omega arith in
    let product : p * 2 ^ suc k ≡ p * 2 ^ k * 2 = ap (λ n. p * n) (pow-suc 2 k) ∙ sym (mul_assoc p (2 ^ k) 2) in
    let number : (p * 2 ^ k + number_at bytes at k) * 2 + bit' ≡ p * 2 ^ suc k + number_at bytes at (suc k) = omega (arith, product, bit_is) in
    subst (λ n. IsCrc (p * 2 ^ n + number_at bytes at n) next) (sym count) (subst (λ n. IsCrc n next) number is)

-- no bits
pub no_bits : (bytes : List ℕ) (p at state : ℕ) → IsCrc p state → IsCrc (p * 2 ^ 0 + number_at bytes at 0) state
unfolding number_at
no_bits bytes p at state is =
    let number : p ≡ p * 2 ^ 0 + 0 = omega arith in
    subst (λ n. IsCrc n state) number is

-- a bit of a run, by a shift of its byte
pub digit_is : (bytes : List ℕ) (byte skip k : ℕ) → bit_and (slice_index bytes (byte + (skip + k) / 8) / 2 ^ (7 - (skip + k) % 8)) 1 ≡ bit bytes (8 * byte + skip + k)
unfolding bit
digit_is bytes byte skip k =
    let quotient : byte + (skip + k) / 8 ≡ (8 * byte + skip + k) / 8 = omega arith in
    let rest : (skip + k) % 8 ≡ (8 * byte + skip + k) % 8 = omega arith in
    shr_and_one (slice_index bytes (byte + (skip + k) / 8)) (7 - (skip + k) % 8)
    ∙ ap (λ n. bit_at (slice_index bytes n) (7 - (skip + k) % 8)) quotient
    ∙ ap (λ n. bit_at (slice_index bytes ((8 * byte + skip + k) / 8)) (7 - n)) rest

-- whole bytes and then the last bits
pub whole_run : (bytes : List ℕ) (from count state : ℕ)
    → IsCrc (number_at bytes from (8 * (count / 8)) * 2 ^ (count % 8) + number_at bytes (8 * (from / 8 + count / 8) + from % 8) (count % 8)) state
    → IsCrc (number_at bytes from count) state
whole_run bytes from count state is =
    let place : 8 * (from / 8 + count / 8) + from % 8 ≡ from + 8 * (count / 8) = omega arith in
    let whole : 8 * (count / 8) + count % 8 ≡ count = omega arith in
    subst (λ n. IsCrc n state)
    (ap (λ n. number_at bytes from (8 * (count / 8)) * 2 ^ (count % 8) + number_at bytes n (count % 8)) place
    ∙ sym (number_at-append bytes from (8 * (count / 8)) (count % 8)) ∙ ap (number_at bytes from) whole)
    is
