-- The CRC by a 24-bit register that takes a byte at a time and holds the remainder so far.
use Rattle.std.specs.Prelude.{ℕ, zero, suc, ◌*◌, ◌/◌, ◌%◌, ◌^◌, List, [], ◌∷◌, bit_xor}
use Rattle.nav_bits.specs.Division.{generator}

-- x times a remainder, modulo the generator
unfoldable pub stepped : ℕ → ℕ
stepped r = bit_xor (r * 2) (r / 2 ^ 23 * generator)

-- x^k times a remainder, modulo the generator
unfoldable pub shift : ℕ → ℕ → ℕ
shift zero r = r
shift (suc k) r = stepped (shift k r)

-- the register after one more byte
unfoldable pub with_byte_of : ℕ → ℕ → ℕ
with_byte_of r byte = shift 8 (bit_xor r (byte % 256 * 2 ^ 16))

-- the register r after more bytes; from 0 it is the CRC of the bytes
unfoldable pub crc_from : ℕ → List ℕ → ℕ
crc_from r [] = r
crc_from r (x ∷ xs) = crc_from (with_byte_of r x) xs
