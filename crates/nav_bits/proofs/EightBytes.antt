-- The value of eight bytes, and the fields inside it.
use Rattle.std.proofs.Common.{◌≡◌, ℕ, ◌+◌, ◌-◌, ◌*◌, ◌/◌, ◌%◌, ◌^◌, ◌<◌, ◌≤◌, List, [], ◌∷◌, slice_index, bit_and, w64, ap, ◌∙◌, arith}
use Rattle.std.proofs.lemmas.Nat.{shr_high, mod_low, and_mask}
use Rattle.std.proofs.lemmas.Nat.Bits.{ones_shr}
use Rattle.std.specs.Int.{from_be_bytes}
use Rattle.nav_bits.specs.Bits.{number_at}
use Rattle.nav_bits.specs.Laws.{number_at-append, number_at-byte, number_at-lt}

pub byte_more : (bytes : List ℕ) (first k : ℕ) → slice_index bytes (first + k) < 256
    → number_at bytes (8 * first) (8 * k + 8) ≡ number_at bytes (8 * first) (8 * k) * 256 + slice_index bytes (first + k)
byte_more bytes first k h =
    let place : 8 * first + 8 * k ≡ 8 * (first + k) = omega arith in
    number_at-append bytes (8 * first) (8 * k) 8
    ∙ ap (λ at. number_at bytes (8 * first) (8 * k) * 256 + number_at bytes at 8) place
    ∙ ap (λ n. number_at bytes (8 * first) (8 * k) * 256 + n) (number_at-byte bytes (first + k) h)

pub eight_bytes_are : (bytes : List ℕ) (first : ℕ) → ((i : ℕ) → slice_index bytes i < 256)
    → from_be_bytes w64 (slice_index bytes first ∷ slice_index bytes (first + 1) ∷ slice_index bytes (first + 2) ∷ slice_index bytes (first + 3)
    ∷ slice_index bytes (first + 4) ∷ slice_index bytes (first + 5) ∷ slice_index bytes (first + 6) ∷ slice_index bytes (first + 7) ∷ [])
    ≡ number_at bytes (8 * first) 64
eight_bytes_are bytes first fit =
    let n1 : number_at bytes (8 * first) 8 ≡ slice_index bytes first = number_at-byte bytes first (fit first) in
    let n2 : number_at bytes (8 * first) 16 ≡ number_at bytes (8 * first) 8 * 256 + slice_index bytes (first + 1) = byte_more bytes first 1 (fit (first + 1)) in
    let n3 : number_at bytes (8 * first) 24 ≡ number_at bytes (8 * first) 16 * 256 + slice_index bytes (first + 2) = byte_more bytes first 2 (fit (first + 2)) in
    let n4 : number_at bytes (8 * first) 32 ≡ number_at bytes (8 * first) 24 * 256 + slice_index bytes (first + 3) = byte_more bytes first 3 (fit (first + 3)) in
    let n5 : number_at bytes (8 * first) 40 ≡ number_at bytes (8 * first) 32 * 256 + slice_index bytes (first + 4) = byte_more bytes first 4 (fit (first + 4)) in
    let n6 : number_at bytes (8 * first) 48 ≡ number_at bytes (8 * first) 40 * 256 + slice_index bytes (first + 5) = byte_more bytes first 5 (fit (first + 5)) in
    let n7 : number_at bytes (8 * first) 56 ≡ number_at bytes (8 * first) 48 * 256 + slice_index bytes (first + 6) = byte_more bytes first 6 (fit (first + 6)) in
    let n8 : number_at bytes (8 * first) 64 ≡ number_at bytes (8 * first) 56 * 256 + slice_index bytes (first + 7) = byte_more bytes first 7 (fit (first + 7)) in
    omega arith

-- a field by shift and mask of a run of bits around it
pub number_at-of_run : (bytes : List ℕ) (from skip w rest : ℕ)
    → number_at bytes from (skip + w + rest) / 2 ^ rest % 2 ^ w ≡ number_at bytes (from + skip) w
number_at-of_run bytes from skip w rest =
    ap (λ n. n / 2 ^ rest % 2 ^ w) (number_at-append bytes from (skip + w) rest)
    ∙ ap (λ n. n % 2 ^ w) (shr_high (number_at bytes from (skip + w)) rest (number_at bytes (from + (skip + w)) rest) (number_at-lt bytes (from + (skip + w)) rest))
    ∙ ap (λ n. n % 2 ^ w) (number_at-append bytes from skip w)
    ∙ mod_low (number_at bytes from skip) w (number_at bytes (from + skip) w) (number_at-lt bytes (from + skip) w)

-- a field inside eight bytes, as the code computes it
pub number_at-of_eight : (bytes : List ℕ) (from at skip width : ℕ) → skip + width ≤ 64 → at ≡ from + skip
    → bit_and (number_at bytes from 64 / 2 ^ (64 - skip - width)) (18446744073709551615 / 2 ^ (64 - width)) ≡ number_at bytes at width
number_at-of_eight bytes from at skip width h here =
    let rest = 64 - skip - width in
    let ones : 64 - (64 - width) ≡ width = omega arith in
    let all : 64 ≡ skip + width + rest = omega arith in
    let mask : 18446744073709551615 / 2 ^ (64 - width) ≡ 2 ^ width - 1 = ones_shr 64 (64 - width) (omega arith) ∙ ap (λ n. 2 ^ n - 1) ones in
    ap (bit_and (number_at bytes from 64 / 2 ^ rest)) mask
    ∙ and_mask (number_at bytes from 64 / 2 ^ rest) width
    ∙ ap (λ n. number_at bytes from n / 2 ^ rest % 2 ^ width) all
    ∙ number_at-of_run bytes from skip width rest
    ∙ ap (λ a. number_at bytes a width) (omega arith)
