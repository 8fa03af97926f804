-- The grammar of decimal texts, without leading and trailing blanks (RINEX 4.01, D19.12, read leniently): an optional sign;
-- 1 to 18 digits with at most one point among, before or after them; optionally one of `D d E e`, an optional sign, and one
-- to three digits.
use Rattle.std.specs.Prelude.{◌≡◌, ◌⊎◌, ◌≤◌, ℕ, ◌+◌, ◌-◌, ◌*◌, Bool, true, false, List, [], ◌∷◌, ◌++◌, length, ℤ, pos, ◌-ℤ◌}
use Rattle.scaled_decimal.specs.Values.{Decimal, signed, is_letter}

-- all are decimal digits
abbrev pub AreDecimals : List ℕ → Type 0
AreDecimals [] = Unit {0}
AreDecimals (c ∷ cs) = (48 ≤ c) × (c ≤ 57) × AreDecimals cs

-- the number with the digits of n followed by these
abbrev pub number_behind : ℕ → List ℕ → ℕ
number_behind n [] = n
number_behind n (c ∷ cs) = number_behind (n * 10 + (c - 48)) cs

-- an optional sign, and whether it is a minus
abbrev pub IsSign : Bool → List ℕ → Type 0
IsSign true text = text ≡ 45 ∷ []
IsSign false text = (text ≡ []) ⊎ (text ≡ 43 ∷ [])

-- an optional sign, and one to three digits
pub record IsSignedNumber (text : List ℕ) (e : ℤ) : Type 0 where
  pub minus : Bool
  pub sign : List ℕ
  pub digits : List ℕ
  pub text_is : text ≡ sign ++ digits
  pub sign_is : IsSign minus sign
  pub are : AreDecimals digits
  pub from : 1 ≤ length digits
  pub to : length digits ≤ 3
  pub number : e ≡ signed minus (number_behind 0 digits)

-- one of `D d E e` and a signed number
pub record IsExponentText (text : List ℕ) (e : ℤ) : Type 0 where
  pub letter : ℕ
  pub rest : List ℕ
  pub text_is : text ≡ letter ∷ rest
  pub letter_is : is_letter letter ≡ true
  pub number : IsSignedNumber rest e

-- an optional exponent, 0 if there is none
abbrev pub IsExponent : List ℕ → ℤ → Type 0
IsExponent text e = ((text ≡ []) × (e ≡ pos 0)) ⊎ IsExponentText text e

-- a point before these digits, or neither point nor digits
abbrev pub IsPoint : List ℕ → List ℕ → Type 0
IsPoint point places = (point ≡ 46 ∷ []) ⊎ ((point ≡ []) × (places ≡ []))

-- the text is in the grammar, and this is its value
pub record IsDecimalText (text : List ℕ) (d : Decimal) : Type 0 where
  pub sign : List ℕ
  -- the digits before the point, the point or nothing, and the digits after it
  pub whole : List ℕ
  pub point : List ℕ
  pub places : List ℕ
  pub exponent : List ℕ
  pub power : ℤ
  pub text_is : text ≡ sign ++ (whole ++ (point ++ (places ++ exponent)))
  pub sign_is : IsSign d.minus sign
  pub whole_are : AreDecimals whole
  pub places_are : AreDecimals places
  pub point_is : IsPoint point places
  pub from : 1 ≤ length whole + length places
  pub to : length whole + length places ≤ 18
  pub exponent_is : IsExponent exponent power
  pub digits_is : d.value.digits ≡ number_behind 0 (whole ++ places)
  pub value_is : d.value.exponent ≡ power -ℤ pos (length places)
