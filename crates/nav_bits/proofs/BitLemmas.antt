-- The CRC of a list of bits is the remainder of the polynomial with these coefficients, and that of a sum is the sum.
use Rattle.std.proofs.Common.{◌≡◌, ℕ, zero, suc, ◌+◌, ◌*◌, ◌%◌, ◌^◌, List, [], ◌∷◌, sym, ap, subst, ◌∙◌, arith}
use Rattle.std.proofs.Math.Nat.{pow-suc}
use Rattle.std.proofs.lemmas.Nat.{xor_lt}
use Rattle.std.specs.Int.Bits.{bit_xor}
use Rattle.nav_bits.specs.Bits.{bit, number_at}
use Rattle.nav_bits.specs.Laws.{bit-lt, number_at-append}
use Rattle.nav_bits.specs.Division.{times_generator, IsCrc}
use Rattle.nav_bits.specs.Register.{stepped}
use Rattle.nav_bits.specs.BitLists.{number_from, number_of_bits, crc_with_bits, crc_of_bits, bits_at}
use Rattle.nav_bits.proofs.SumLaws.{regroup, xor-mul_pow}
use Rattle.nav_bits.proofs.DivisionLemmas.{with_digit, zero_is, one_remainder, sum_of, times_sum}

more_bits : (p r : ℕ) (bits : List ℕ) → IsCrc p r → IsCrc (number_from p bits) (crc_with_bits r bits)
unfolding number_from crc_with_bits
more_bits p r [] is = is
more_bits p r (b ∷ bits) is =
    more_bits (p * 2 + b % 2) (stepped (bit_xor r (b % 2 * 2 ^ 23))) bits (with_digit p r (b % 2) (omega arith) is)

pub bits_have_crc : (bits : List ℕ) → IsCrc (number_of_bits bits) (crc_of_bits bits)
bits_have_crc bits = more_bits 0 0 bits zero_is

-- the polynomial of a run of bits
number_more : (bytes : List ℕ) (from count n : ℕ) → number_from n (bits_at bytes from count) ≡ n * 2 ^ count + number_at bytes from count
unfolding number_from bits_at number_at
number_more bytes from zero n = omega arith
number_more bytes from (suc count) n =
    let rest = number_more bytes (from + 1) count (n * 2 + bit bytes from % 2) in
    let place : bit bytes (from + 0) ≡ bit bytes from = ap (bit bytes) (omega arith) in
    let one : number_at bytes from 1 ≡ bit bytes from = omega (arith, place) in
    let digit : bit bytes from % 2 ≡ bit bytes from = omega (arith, bit-lt bytes from) in
    let parts = number_at-append bytes from 1 count in
    let all : 1 + count ≡ suc count = omega arith in
    let whole : number_at bytes from (suc count) ≡ bit bytes from * 2 ^ count + number_at bytes (from + 1) count =
    ap (number_at bytes from) (sym all) ∙ parts ∙ ap (λ d. d * 2 ^ count + number_at bytes (from + 1) count) one in
    let power : n * 2 ^ suc count ≡ n * 2 * 2 ^ count = rw (pow-suc 2 count) (omega arith) in
    rest ∙ ap (λ d. (n * 2 + d) * 2 ^ count + number_at bytes (from + 1) count) digit ∙ omega arith

pub bits_of_run : (bytes : List ℕ) (from count : ℕ) → number_of_bits (bits_at bytes from count) ≡ number_at bytes from count
bits_of_run bytes from count = let all = number_more bytes from count 0 in omega arith

-- the CRC of a run of bits is what `crc_of_bits` gives
pub run_has_crc : (bytes : List ℕ) (from count r : ℕ) → IsCrc (number_at bytes from count) r → r ≡ crc_of_bits (bits_at bytes from count)
run_has_crc bytes from count r is =
    let bits = bits_at bytes from count in
    let P : ℕ → Type 0 = λ p. IsCrc p (crc_of_bits bits) in
    one_remainder (number_at bytes from count) r (crc_of_bits bits) is (subst P (bits_of_run bytes from count) (bits_have_crc bits))

-- the CRC of a sum of polynomials is the sum of theirs
pub crc_of_sum : (p r q s : ℕ) → IsCrc p r → IsCrc q s → IsCrc (bit_xor p q) (bit_xor r s)
crc_of_sum p r q s first second =
    let a = first.multiple.0 in
    let b = second.multiple.0 in
    record {
      fits = xor_lt 24 r s first.fits second.fits;
      multiple = (
        sum_of a b,
        times_sum a b
            ∙ ap (λ n. bit_xor n (times_generator b)) first.multiple.1
            ∙ ap (bit_xor (bit_xor (p * 2 ^ 24) r)) second.multiple.1
            ∙ regroup (p * 2 ^ 24) r (q * 2 ^ 24) s
            ∙ ap (λ n. bit_xor n (bit_xor r s)) (sym (xor-mul_pow 24 p q)),
      );
    }
