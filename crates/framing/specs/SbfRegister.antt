-- CRC-16 by a register that takes a byte at a time: polynomial x^16 + x^12 + x^5 + 1, initial value 0, no reflection, no
-- final XOR. A polynomial over GF(2) is the number whose bits are its coefficients.
use Rattle.std.specs.Prelude.{ℕ, zero, suc, ◌*◌, ◌/◌, ◌%◌, ◌^◌, List, [], ◌∷◌, bit_xor}

-- x^16 + x^12 + x^5 + 1
abbrev pub generator : ℕ
generator = 0x11021

-- x times a remainder, modulo the generator
unfoldable pub stepped : ℕ → ℕ
stepped r = bit_xor (r * 2) (r / 2 ^ 15 * generator)

-- x^k times a remainder, modulo the generator
unfoldable pub shift : ℕ → ℕ → ℕ
shift zero r = r
shift (suc k) r = stepped (shift k r)

-- the register after one more byte
unfoldable pub with_byte_of : ℕ → ℕ → ℕ
with_byte_of r byte = shift 8 (bit_xor r (byte % 256 * 2 ^ 8))

-- the register r after more bytes; from 0 it is the CRC of the bytes
unfoldable pub crc_from : ℕ → List ℕ → ℕ
crc_from r [] = r
crc_from r (x ∷ xs) = crc_from (with_byte_of r x) xs
