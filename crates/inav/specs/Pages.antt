-- The two parts of an I/NAV page and their word (Galileo OS SIS ICD, 4.3.2). A page part is a number of 120
-- bits, bit 0 the most significant.
use Rattle.std.specs.Prelude.{◌≡◌, ℕ, ◌+◌, ◌-◌, ◌*◌, ◌/◌, ◌%◌, ◌^◌, ◌<◌, ◌==◌, Bool, List, nat_lt, if◌then◌else◌}
use Rattle.std.specs.Int.{bytes_high_first}
use Rattle.nav_bits.specs.Bits.{number_at}
use Rattle.nav_bits.specs.Division.{IsCrc}
use Rattle.nav_bits.specs.Register.{crc_from}
use Rattle.inav.specs.declared.half.HalfKind.{HalfKind}
use Rattle.inav.specs.declared.half.HalfKind.TheVariants.{Even, Odd}

-- the field of that width at bit offset `at` of a page part
abbrev pub bits_at : ℕ → ℕ → ℕ → ℕ
bits_at part at width = part / 2 ^ (120 - at - width) % 2 ^ width

-- the even/odd bit, the first, is 0 in an even part and 1 in an odd one
abbrev pub kind_of : ℕ → HalfKind
kind_of part = if nat_lt part (2 ^ 119) then Even else Odd

-- the used bits of a page part: the first 114 of an even one, the first 106 of an odd one, followed by 0
abbrev pub kept_of : ℕ → ℕ
kept_of part = if nat_lt part (2 ^ 119) then part / 2 ^ 6 * 2 ^ 6 else part / 2 ^ 14 * 2 ^ 14

-- a valid page part: 120 bits, page type (the second bit) nominal, and unused bits 0
pub record IsHalf (half : ℕ) : Type 0 where
  pub fits : half < 2 ^ 120
  pub nominal : bits_at half 1 1 ≡ 0
  pub kept : kept_of half ≡ half

-- the 15 bytes of 120 bits
abbrev pub bytes_of_half : ℕ → List ℕ
bytes_of_half half = bytes_high_first 15 half

-- the bits protected by the CRC of a page: 114 of the even part, then 82 of the odd part
abbrev pub protected_of : ℕ → ℕ → ℕ
protected_of even odd = bits_at even 0 114 * 2 ^ 82 + bits_at odd 0 82

-- the CRC-24Q of these 196 bits is the one in the odd part
abbrev pub HasRightCrc : ℕ → ℕ → Type 0
HasRightCrc even odd = IsCrc (protected_of even odd) (bits_at odd 82 24)

-- the CRC-24Q of a page, by the register over 25 bytes of which the first four bits are 0
unfoldable pub page_crc : ℕ → ℕ → ℕ
page_crc even odd = crc_from 0 (bytes_high_first 25 (protected_of even odd))

-- that CRC is the one in the odd part
abbrev pub has_right_crc : ℕ → ℕ → Bool
has_right_crc even odd = page_crc even odd == bits_at odd 82 24

-- the word of a page: the 112 data bits of the even part, then the 16 of the odd part
abbrev pub data_of : ℕ → ℕ → ℕ
data_of even odd = bits_at even 2 112 * 2 ^ 16 + bits_at odd 2 16

-- the 16 bytes of the word
unfoldable pub word_of : ℕ → ℕ → List ℕ
word_of even odd = bytes_high_first 16 (data_of even odd)

-- the two page parts of a word: 0, nominal, 112 bits, tail 0; and 1, nominal, 16 bits, 64 further bits 0, the CRC
-- of the page, tail 0
pub record IsSplit (word : List ℕ) (even odd : ℕ) : Type 0 where
  pub even_is : even ≡ number_at word 0 112 * 2 ^ 6
  pub odd_is : odd ≡ 2 ^ 119 + number_at word 112 16 * 2 ^ 102 + bits_at odd 82 24 * 2 ^ 14
  pub crc : HasRightCrc even odd

-- the even part of a word
abbrev pub even_of : List ℕ → ℕ
even_of word = number_at word 0 112 * 2 ^ 6

-- the odd part of a word with 0 in place of the CRC
abbrev pub odd_before_crc : List ℕ → ℕ
odd_before_crc word = 2 ^ 119 + number_at word 112 16 * 2 ^ 102

-- the odd part of a word
abbrev pub odd_of : List ℕ → ℕ
odd_of word = odd_before_crc word + page_crc (even_of word) (odd_before_crc word) * 2 ^ 14
