-- The CRC of a list of bits, the first one the highest power, as a function.
use Rattle.std.specs.Prelude.{ℕ, zero, suc, ◌+◌, ◌*◌, ◌%◌, ◌^◌, List, [], ◌∷◌, bit_xor}
use Rattle.nav_bits.specs.Bits.{bit}
use Rattle.nav_bits.specs.Register.{stepped}

-- the number with the bits of n followed by these bits
unfoldable pub number_from : ℕ → List ℕ → ℕ
number_from n [] = n
number_from n (b ∷ bits) = number_from (n * 2 + b % 2) bits

-- the polynomial with these coefficients
abbrev pub number_of_bits : List ℕ → ℕ
number_of_bits bits = number_from 0 bits

-- the register r after more bits
unfoldable pub crc_with_bits : ℕ → List ℕ → ℕ
crc_with_bits r [] = r
crc_with_bits r (b ∷ bits) = crc_with_bits (stepped (bit_xor r (b % 2 * 2 ^ 23))) bits

-- the CRC of the bits
abbrev pub crc_of_bits : List ℕ → ℕ
crc_of_bits bits = crc_with_bits 0 bits

-- the count bits of some bytes from bit offset from
unfoldable pub bits_at : List ℕ → ℕ → ℕ → List ℕ
bits_at bytes from zero = []
bits_at bytes from (suc count) = bit bytes from ∷ bits_at bytes (from + 1) count
