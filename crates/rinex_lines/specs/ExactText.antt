-- The exact text of a decimal number of at most thirteen digits: 19 columns (RINEX 4.01, D19.12 of the navigation records).
use Rattle.std.specs.Prelude.{◌≡◌, ◌⊎◌, ℕ, zero, suc, ◌-◌, ◌*◌, ◌/◌, ◌%◌, ◌^◌, ◌<◌, ◌≤◌, ◌==◌, ◌&&◌, nat_le, if◌then◌else◌, Bool, true, false, List, ◌∷◌, Option, None, Some, option_map, ℤ, pos, negsuc, ◌+ℤ◌, ◌-ℤ◌, ◌≤ℤ◌, int_le}
use Rattle.scaled_decimal.specs.NumberReading.{trim_start, trim_end, decimal_of}
use Rattle.scaled_decimal.specs.NumberText.{Parts, body}
use Rattle.scaled_decimal.specs.Values.{Reading, Decimal}

-- the digits of a with k zeros behind them, and the exponent less by k, are those of b
pub record HasZeros (k : ℕ) (a b : Reading) : Type 0 where
  pub digits : a.digits * 10 ^ k ≡ b.digits
  pub exponent : a.exponent ≡ b.exponent +ℤ pos k

-- the numbers are equal
abbrev pub AreEqual : Reading → Reading → Type 0
AreEqual a b = (k : ℕ) × (HasZeros k a b ⊎ HasZeros k b a)

-- the number that parts say: thirteen digits, with a point after the first, and an exponent
abbrev pub number_of : Parts → Reading
number_of p = record { digits = p.digits; exponent = p.exponent -ℤ pos 12 }

-- thirteen digits, of which the first is not 0, and an exponent of one digit or two
pub record AreThirteen (p : Parts) : Type 0 where
  pub least : 10 ^ 12 ≤ p.digits
  pub below : p.digits < 10 ^ 13
  pub from : negsuc 98 ≤ℤ p.exponent
  pub to : p.exponent ≤ℤ pos 99

-- the parts of 0
abbrev pub none : Parts
none = record { digits = 0; exponent = pos 0 }

-- the parts say exactly this number, and can be written
pub record AreExactPartsOf (r : Reading) (p : Parts) : Type 0 where
  pub equal : AreEqual r (number_of p)
  pub written : AreThirteen p ⊎ (p ≡ none)

-- the greatest k up to the given one with 10^k at most n; 0 if there is none
abbrev pub place_from : ℕ → ℕ → ℕ
place_from zero n = 0
place_from (suc k) n = if nat_le (10 ^ suc k) n then suc k else place_from k n

-- the digits of n, the first of which is at 10^k, as thirteen; none if one behind the thirteenth is not 0
abbrev pub thirteen : ℕ → ℕ → Option ℕ
thirteen k n = if nat_le k 12 then Some (n * 10 ^ (12 - k))
    else if n % 10 ^ (k - 12) == 0 then Some (n / 10 ^ (k - 12)) else None

-- thirteen digits with this exponent, if it has one digit or two
abbrev pub parts_with : ℤ → Option ℕ → Option Parts
parts_with e None = None
parts_with e (Some d) =
    if int_le (negsuc 98) e && int_le e (pos 99) then Some (record { digits = d; exponent = e }) else None

-- the exact parts of a number of at most 18 digits; none if it has no such parts
abbrev pub parts_of : Reading → Option Parts
parts_of r =
    if r.digits == 0 then Some none
    else let k = place_from 17 r.digits in parts_with (r.exponent +ℤ pos k) (thirteen k r.digits)

-- `-` before a negative number, else a blank
abbrev pub sign_column : Bool → ℕ → ℕ
sign_column true n = if n == 0 then 32 else 45
sign_column false n = 32

-- the text of parts
abbrev pub text_of : Bool → Parts → List ℕ
text_of minus p = sign_column minus p.digits ∷ body p

-- the exact text of a number
abbrev pub decimal_text : Decimal → Option (List ℕ)
decimal_text d = option_map (text_of d.minus) (parts_of d.value)

-- the exact text of the number that a text says, if it says one and the number has an exact text
abbrev pub exact_by : Option Decimal → Option (List ℕ)
exact_by None = None
exact_by (Some d) = decimal_text d

unfoldable pub exact_text : List ℕ → Option (List ℕ)
exact_text text = exact_by (decimal_of (trim_end (trim_start text)))
