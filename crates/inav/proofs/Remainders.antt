-- The CRC of a page is the sum of the contributions of its parts, so partners are those with equal CRC remainders.
use Rattle.std.proofs.Common.{◌≡◌, ℕ, ◌*◌, ◌^◌, ◌<◌, true, sym, ap, subst, ◌∙◌, arith}
use Rattle.std.proofs.lemmas.Bool.{eqb-true, eq-eqb}
use Rattle.std.proofs.lemmas.Nat.{xor_comm, xor_lt}
use Rattle.std.specs.Int.Bits.{bit_xor, xor_assoc, xor_self, xor_zero_l}
use lib.Bits.{xor_shifted}
use Rattle.nav_bits.specs.Division.{IsCrc}
use Rattle.nav_bits.proofs.Surface.{crc_of_sum, one_remainder}
use Rattle.inav.specs.declared.half.HalfKind.{HalfKind}
use Rattle.inav.specs.declared.half.HalfKind.TheVariants.{Even, Odd}
use Rattle.inav.specs.Pages.{bits_at, protected_of, page_crc, has_right_crc}
use Rattle.inav.specs.Mirrors.{is_right_by, other_kind, remainder_by}
use Rattle.inav.proofs.PageNumbers.{page_crc_is}

-- the protected bits, concatenated, are the sum of both parts
protected-parts : (even odd : ℕ) → bit_xor (protected_of even 0) (protected_of 0 odd) ≡ protected_of even odd
protected-parts even odd =
    let first : protected_of even 0 ≡ bits_at even 0 114 * 2 ^ 82 = omega arith in
    let second : protected_of 0 odd ≡ bits_at odd 0 82 = omega arith in
    ap (λ n. bit_xor n (protected_of 0 odd)) first
    ∙ ap (bit_xor (bits_at even 0 114 * 2 ^ 82)) second
    ∙ xor_shifted (bits_at even 0 114) 82 (bits_at odd 0 82) (omega arith)

pub page_crc-parts : (even odd : ℕ) → page_crc even odd ≡ bit_xor (page_crc even 0) (page_crc 0 odd)
page_crc-parts even odd =
    let sum = crc_of_sum (protected_of even 0) (page_crc even 0) (protected_of 0 odd) (page_crc 0 odd)
    (page_crc_is even 0) (page_crc_is 0 odd) in
    let P : ℕ → Type 0 = λ p. IsCrc p (bit_xor (page_crc even 0) (page_crc 0 odd)) in
    one_remainder (protected_of even odd) (page_crc even odd) (bit_xor (page_crc even 0) (page_crc 0 odd))
    (page_crc_is even odd) (subst P (protected-parts even odd) sum)

cancel : (a b : ℕ) → bit_xor a (bit_xor a b) ≡ b
cancel a b = sym (xor_assoc a a b) ∙ ap (λ x. bit_xor x b) (xor_self a) ∙ xor_zero_l b

-- two page parts with the right CRC have equal remainders
right_remainders : (even odd : ℕ) → has_right_crc even odd ≡ true → remainder_by Even even ≡ remainder_by Odd odd
right_remainders even odd right =
    let is : page_crc even odd ≡ bits_at odd 82 24 = eqb-true (page_crc even odd) (bits_at odd 82 24) right in
    sym (cancel (page_crc 0 odd) (page_crc even 0))
    ∙ ap (bit_xor (page_crc 0 odd)) (xor_comm (page_crc 0 odd) (page_crc even 0) ∙ sym (page_crc-parts even odd) ∙ is)

-- and two page parts with equal remainders have the right CRC
remainders_right : (even odd : ℕ) → remainder_by Even even ≡ remainder_by Odd odd → has_right_crc even odd ≡ true
remainders_right even odd same =
    let held = bits_at odd 82 24 in
    eq-eqb (page_crc even odd) held
    (page_crc-parts even odd
    ∙ ap (λ n. bit_xor n (page_crc 0 odd)) same
    ∙ xor_comm (bit_xor (page_crc 0 odd) held) (page_crc 0 odd)
    ∙ cancel (page_crc 0 odd) held)

pub remainder-lt : (kind : HalfKind) (half : ℕ) → remainder_by kind half < 2 ^ 24
remainder-lt Even half = (page_crc_is half 0).fits
remainder-lt Odd half = xor_lt 24 (page_crc 0 half) (bits_at half 82 24) (page_crc_is 0 half).fits (omega arith)

-- ---- two page parts, the first of that kind

pub same_remainder : (kind : HalfKind) (one other : ℕ) → is_right_by kind one other ≡ true
    → remainder_by kind one ≡ remainder_by (other_kind kind) other
same_remainder Even one other right = right_remainders one other right
same_remainder Odd one other right = sym (right_remainders other one right)

pub right_by_remainder : (kind : HalfKind) (one other : ℕ) → remainder_by kind one ≡ remainder_by (other_kind kind) other
    → is_right_by kind one other ≡ true
right_by_remainder Even one other same = remainders_right one other same
right_by_remainder Odd one other same = remainders_right other one (sym same)
