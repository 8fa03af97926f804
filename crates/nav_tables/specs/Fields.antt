-- A field of a message, and the number that its bits encode.
use Rattle.std.specs.Prelude.{◌≡◌, ℕ, suc, ◌+◌, ◌-◌, ◌^◌, ◌&&◌, Bool, ℤ, pos, negsuc, neg_ℤ, ◌≤ℤ◌}
use Rattle.std.specs.Prelude.{int_le, nat_le, nat_lt, unsigned_abs, if◌then◌else◌}
use Rattle.nav_bits.specs.Signed.{signed_of, unsigned_of}
use Rattle.nav_tables.specs.declared.field.Coding.{Coding}
use Rattle.nav_tables.specs.declared.field.Coding.TheVariants.{Unsigned, TwosComplement}
use Rattle.nav_tables.specs.declared.field.Coding.TheVariants.{SignMagnitude, Reserved}
use Rattle.nav_tables.specs.declared.field.Field.{Field}

-- the value of w bits whose first is a sign and whose others are a magnitude
abbrev pub sign_magnitude_of : ℕ → ℕ → ℤ
sign_magnitude_of w n = if nat_lt n (2 ^ (w - 1)) then pos n else neg_ℤ (pos (n - 2 ^ (w - 1)))

-- the bits of a number in sign and magnitude
abbrev pub sign_magnitude_bits : ℕ → ℤ → ℕ
sign_magnitude_bits w (pos n) = n
sign_magnitude_bits w (negsuc n) = 2 ^ (w - 1) + suc n

-- the number that w bits of a coding encode
abbrev pub number_by : Coding → ℕ → ℕ → ℤ
number_by Unsigned w n = pos n
number_by TwosComplement w n = signed_of w n
number_by SignMagnitude w n = sign_magnitude_of w n
number_by Reserved w n = pos 0

-- the bits of a number
abbrev pub bits_by : Coding → ℕ → ℤ → ℕ
bits_by Unsigned w z = unsigned_abs z
bits_by TwosComplement w z = unsigned_of w z
bits_by SignMagnitude w z = sign_magnitude_bits w z
bits_by Reserved w z = 0

abbrev pub number_of : Field → ℕ → ℤ
number_of f n = number_by f.coding f.width n

abbrev pub bits_of : Field → ℤ → ℕ
bits_of f z = bits_by f.coding f.width z

-- the least and the greatest number of w bits
abbrev pub least : Coding → ℕ → ℤ
least Unsigned w = pos 0
least TwosComplement w = neg_ℤ (pos (2 ^ (w - 1)))
least SignMagnitude w = neg_ℤ (pos (2 ^ (w - 1) - 1))
least Reserved w = pos 0

abbrev pub greatest : Coding → ℕ → ℤ
greatest Unsigned w = pos (2 ^ w - 1)
greatest TwosComplement w = pos (2 ^ (w - 1) - 1)
greatest SignMagnitude w = pos (2 ^ (w - 1) - 1)
greatest Reserved w = pos 0

-- 1 to 32 bits, and a range that they have bits for
abbrev pub is_field : Field → Bool
is_field f = nat_le 1 f.width && nat_le f.width 32 && int_le (least f.coding f.width) f.low
    && int_le f.high (greatest f.coding f.width)

-- the number is in the range of its field
abbrev pub IsInRange : Field → ℤ → Type 0
IsInRange f z = (f.low ≤ℤ z) × (z ≤ℤ f.high)

abbrev pub is_in_range : Field → ℤ → Bool
is_in_range f z = int_le f.low z && int_le z f.high

-- the bits are those of a number: no sign before a magnitude of 0, reserved bits 0
abbrev pub IsPlain : Field → ℕ → Type 0
IsPlain f n = bits_of f (number_of f n) ≡ n

-- the number of a constant field, else 0
abbrev pub start_of : Field → ℤ
start_of f = if int_le f.high f.low then f.low else pos 0
