-- Intermediate results of private functions, cited by no public clause.
use Rattle.std.specs.Prelude.{◌≡◌, ◌≢◌, ◌⊎◌, ℕ, ◌+◌, ◌-ℤ◌, ◌*◌, ◌^◌, ◌<◌, ◌≤◌, Bool, true, false, List, drop, get_or, Some, ℤ, pos, negsuc, ◌≤ℤ◌}
use Rattle.scaled_decimal.specs.NumberReading.{is_decimal, mantissa, exponent_after}
use Rattle.scaled_decimal.specs.Fractions.{Fraction, IsNearest}

-- a fraction whose first digit is at 10^k, times p / q, the power of ten that moves that digit to 10^12
pub record IsMoved (over under k over' under' : ℕ) : Type 0 where
  pub p : ℕ
  pub q : ℕ
  pub some : 0 < p
  pub some_under : 0 < under'
  pub power : p * 10 ^ k ≡ q * 10 ^ 12
  pub over_is : over' ≡ over * p
  pub under_is : under' ≡ under * q
  pub below : over' < 10 ^ 13 * under'

-- d has the thirteen significant digits of a fraction whose first digit is at 10^k
pub record AreDigits (over under k d : ℕ) : Type 0 where
  pub over' : ℕ
  pub under' : ℕ
  pub moved : IsMoved over under k over' under'
  pub nearest : IsNearest (record { over = over'; under = under' }) d

-- reached is start x 10^k, and at most over
pub record IsReached (over start k reached : ℕ) : Type 0 where
  pub reached_is : reached ≡ start * 10 ^ k
  pub at_most : reached ≤ over

-- the exponents that three digits can give
pub record IsExponentRead (e : ℤ) : Type 0 where
  pub from : negsuc 998 ≤ℤ e
  pub to : e ≤ℤ pos 999

-- the digits and exponents that reading can give
pub record IsDecimalRead (digits : ℕ) (e : ℤ) : Type 0 where
  pub below : digits < 10 ^ 18
  pub from : negsuc 1018 ≤ℤ e
  pub to : e ≤ℤ pos 999

-- a minus, or another character
abbrev pub IsMinus : Bool → ℕ → ℕ → Type 0
IsMinus true c other = c ≡ 45
IsMinus false c other = c ≡ other

-- the mantissa of a text in the usual form: in bytes 1 to 14 a digit, a point and twelve digits
pub record IsUsualMantissa (text : List ℕ) (n : ℕ) : Type 0 where
  pub first : 48 ≤ get_or text 1 0
  pub read : mantissa (drop 1 text) ≡ record { number = n; count = 13; places = 12; rest = drop 15 text }
  pub below : n < 10 ^ 13

-- its exponent: in bytes 15 to 18 a letter, a sign and two digits
pub record IsUsualExponent (text : List ℕ) (e : ℤ) : Type 0 where
  pub letter : is_decimal (get_or text 15 0) ≡ false
  pub last : get_or text 18 0 ≢ 32
  pub read : exponent_after (drop 15 text) ≡ Some e
  pub from : negsuc 98 ≤ℤ e
  pub to : e ≤ℤ pos 99

-- the fraction s times 10^20 is f x 10^t x 2^a / 2^b
pub record IsSize (s : Fraction) (f t a b : ℕ) : Type 0 where
  pub same : s.over * (2 ^ b * 10 ^ 20) ≡ (f * 10 ^ t * 2 ^ a) * s.under
  pub some : 0 < f
  pub most : f ≤ 1884955592153880
  pub tens_from : 5 ≤ t
  pub tens_to : t ≤ 20
  pub up : a ≤ 16
  pub down : b ≤ 59

-- d x 10^i / 10^j is e / 10^k
pub record IsLifted (d i j e k : ℕ) : Type 0 where
  pub same : d * 10 ^ i * 10 ^ k ≡ e * 10 ^ j
  pub below : e < 10 ^ 18
  pub few : k ≤ 20

-- e x 2^b / (f x 10^k) is over / under
pub record IsLowered (e k f b over under : ℕ) : Type 0 where
  pub same : over * (f * 10 ^ k) ≡ e * 2 ^ b * under
  pub some : 0 < under
  pub over_fits : over < 2 ^ 126
  pub under_fits : under < 2 ^ 95

-- n is the integer nearest to d x 10^i / 10^j, divided by 10^20 times the size s
pub record IsNumberAt (s : Fraction) (d i j n : ℕ) : Type 0 where
  pub factor : ℕ
  pub tens : ℕ
  pub bits : ℕ
  pub size : IsSize s factor tens 0 bits
  pub nearest : IsNearest (record { over = d * 10 ^ i * 2 ^ bits; under = factor * 10 ^ tens * 2 ^ 0 * 10 ^ j }) n

-- d is the integer nearest to m x 2^a / 2^b, moved by powers of ten so that its digit of rank r, which is counted from
-- 10^-1233, stands at 10^12
pub record AreDigitsAt (m r a b d : ℕ) : Type 0 where
  pub lift : ℕ
  pub lower : ℕ
  pub place : r + lift ≡ 1245 + lower
  pub one : (lift ≡ 0) ⊎ (lower ≡ 0)
  pub nearest : IsNearest (record { over = m * 10 ^ lift * 2 ^ a; under = 2 ^ b * 10 ^ lower }) d

-- there are thirteen digits d, of them the first is at 10^(k - 1253), and these are the parts
pub record IsReportedPlace (d k : ℕ) (whole : Bool) (digits : ℕ) (e : ℤ) : Type 0 where
  pub from : 10 ^ 12 ≤ d
  pub more : whole ≡ false → 10 ^ 12 < d
  pub to : d < 10 ^ 13
  pub place : 1233 ≤ k
  pub digits_are : digits ≡ d
  pub exponent_is : e ≡ pos k -ℤ pos 1253
