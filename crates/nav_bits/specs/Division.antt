-- CRC-24Q as division of polynomials (RTCM 10403.3, 4; Galileo OS SIS ICD, 5.1.9.4). A polynomial over GF(2) is the number
-- whose bits are its coefficients: bit_xor is the sum, and p * 2 is x times p.
use Rattle.std.specs.Prelude.{◌≡◌, ℕ, ◌*◌, ◌^◌, ◌<◌, List, [], ◌∷◌, Bool, if◌then◌else◌, bit_xor}

-- x^24 + x^23 + x^18 + x^17 + x^14 + x^11 + x^10 + x^7 + x^6 + x^5 + x^4 + x^3 + x + 1
abbrev pub generator : ℕ
generator = 0x1864CFB

-- the generator times the polynomial with these coefficients, the constant one first
unfoldable pub times_generator : List Bool → ℕ
times_generator [] = 0
times_generator (b ∷ q) = bit_xor (times_generator q * 2) (if b then generator else 0)

-- r is the CRC of p: its degree is below 24, and x^24 p + r is a multiple of the generator
pub record IsCrc (p r : ℕ) : Type 0 where
  pub fits : r < 2 ^ 24
  pub multiple : (q : List Bool) × (times_generator q ≡ bit_xor (p * 2 ^ 24) r)
