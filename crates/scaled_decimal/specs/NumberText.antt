-- The text of a number at a scale: 19 columns (RINEX 4.01, D19.12 of the navigation records).
use Rattle.std.specs.Prelude.{◌≡◌, ℕ, zero, suc, ◌+◌, ◌*◌, ◌/◌, ◌%◌, ◌^◌, ◌<◌, ◌≤◌, ◌==◌, nat_le, if◌then◌else◌, List, [], ◌∷◌, ◌++◌, ℤ, pos, negsuc, ◌+ℤ◌, ◌-ℤ◌, unsigned_abs}
use Rattle.scaled_decimal.specs.Fractions.{Fraction, IsAtMost, IsBelow, scaled, times, ten_to, IsNearest, nearest_to}

-- thirteen digits, with a point after the first, and an exponent
pub record Parts : Type 0 where
  pub digits : ℕ
  pub exponent : ℤ

-- the value of the parts
abbrev pub worth : Parts → Fraction
worth p = scaled p.digits (ten_to (p.exponent -ℤ pos 12))

-- 10^e is at most v, and 10^(e + 1) is above v
pub record IsExponent (v : Fraction) (e : ℤ) : Type 0 where
  pub at_most : IsAtMost (ten_to e) v
  pub below : IsBelow v (ten_to (e +ℤ pos 1))

-- rounding carry: 10^13 becomes 10^12 with the next exponent
abbrev pub carried : ℕ → ℤ → Parts
carried d e = if d == 10 ^ 13 then record { digits = 10 ^ 12; exponent = e +ℤ pos 1 }
    else record { digits = d; exponent = e }

-- the parts of v, rounded to thirteen digits
pub record ArePartsOf (v : Fraction) (p : Parts) : Type 0 where
  pub exponent : ℤ
  pub digits : ℕ
  pub first : IsExponent v exponent
  pub nearest : IsNearest (times v (ten_to (pos 12 -ℤ exponent))) digits
  pub parts : p ≡ carried digits exponent

-- the last k digits of n, as characters
unfoldable pub digits : ℕ → ℕ → List ℕ
digits zero n = []
digits (suc k) n = digits k (n / 10) ++ (48 + n % 10) ∷ []

-- the sign of an exponent, `+` or `-`
abbrev pub exponent_sign : ℤ → ℕ
exponent_sign (pos k) = 43
exponent_sign (negsuc k) = 45

-- an exponent as a sign and two digits
abbrev pub exponent_text : ℤ → List ℕ
exponent_text z = exponent_sign z ∷ digits 2 (unsigned_abs z)

-- one digit, a point, twelve digits, `D` and the exponent
abbrev pub body : Parts → List ℕ
body p = digits 1 (p.digits / 10 ^ 12) ++ 46 ∷ (digits 12 (p.digits % 10 ^ 12) ++ 68 ∷ exponent_text p.exponent)

-- a blank, or `-` before a negative number
abbrev pub sign_column : ℤ → ℕ
sign_column (pos n) = 32
sign_column (negsuc n) = 45

-- text is the text of z at the size s: zero has digits and exponent 0, any other number the parts of its value
pub record IsTextOf (s : Fraction) (z : ℤ) (text : List ℕ) : Type 0 where
  pub parts : Parts
  pub zero_is : unsigned_abs z ≡ 0 → parts ≡ record { digits = 0; exponent = pos 0 }
  pub parts_are : 0 < unsigned_abs z → ArePartsOf (scaled (unsigned_abs z) s) parts
  pub text_is : text ≡ sign_column z ∷ body parts

-- the greatest k up to the given one with 10^k at most v x 10^20; 0 if there is none
unfoldable pub place_from : ℕ → Fraction → ℕ
place_from zero v = 0
place_from (suc k) v = if nat_le (10 ^ suc k * v.under) (v.over * 10 ^ 20) then suc k else place_from k v

-- the parts of v, for v from 10^-20 to below 10^17
unfoldable pub parts_to : Fraction → Parts
parts_to v =
    let e = pos (place_from 36 v) -ℤ pos 20 in
    carried (nearest_to (times v (ten_to (pos 12 -ℤ e)))) e

-- the digits and the exponent of the number n at the size s
abbrev pub parts_at : Fraction → ℕ → Parts
parts_at s zero = record { digits = 0; exponent = pos 0 }
parts_at s (suc n) = parts_to (scaled (suc n) s)

-- the text of z at the size s
unfoldable pub number_text : Fraction → ℤ → List ℕ
number_text s z = sign_column z ∷ body (parts_at s (unsigned_abs z))

-- no byte is below a blank (32), so there is no line feed
abbrev pub AreShown : List ℕ → Type 0
AreShown [] = Unit {0}
AreShown (c ∷ cs) = (32 ≤ c) × AreShown cs

-- the last byte is a digit
pub record EndsInDigit (text : List ℕ) : Type 0 where
  pub prefix : List ℕ
  pub last : ℕ
  pub text_is : text ≡ prefix ++ last ∷ []
  pub from : 48 ≤ last
  pub to : last ≤ 57
