-- The number that a text encodes at a scale (RINEX 4.01, D19.12, read leniently). Leading and
-- trailing blanks are dropped; then an optional sign; 1 to 18 digits with at most one point among,
-- before or after them; optionally one of `D d E e`, an optional sign, and one to three digits.
use Rattle.std.specs.Prelude.{◌≡◌, ℕ, ◌+◌, ◌-◌, ◌*◌, ◌&&◌, ◌==◌, nat_le, if◌then◌else◌, Bool, true, false, List, [], ◌∷◌, Option, Some, None, Result, Ok, Err, option_map, ℤ, pos, ◌-ℤ◌, int_le, unsigned_abs}
use Rattle.scaled_decimal.specs.Fractions.{Fraction, scaled, divided, ten_to, IsNearest, nearest_to}
pub use Rattle.scaled_decimal.specs.Values.{Reading, Decimal, signed, is_letter}
use Rattle.scaled_decimal.specs.Grammar.{IsDecimalText}
use Rattle.scaled_decimal.specs.declared.reading.DecimalFault.{DecimalFault}
use Rattle.scaled_decimal.specs.declared.reading.DecimalFault.TheVariants as faults

-- the text without leading blanks
abbrev pub trim_start : List ℕ → List ℕ
trim_start [] = []
trim_start (c ∷ cs) = if c == 32 then trim_start cs else c ∷ cs

-- character c before a text without trailing blanks
abbrev pub before_trimmed : ℕ → List ℕ → List ℕ
before_trimmed c [] = if c == 32 then [] else c ∷ []
before_trimmed c (d ∷ ds) = c ∷ d ∷ ds

-- the text without trailing blanks
abbrev pub trim_end : List ℕ → List ℕ
trim_end [] = []
trim_end (c ∷ cs) = before_trimmed c (trim_end cs)

-- empty, or blanks alone
abbrev pub AreBlanks : List ℕ → Type 0
AreBlanks [] = Unit {0}
AreBlanks (c ∷ cs) = (c ≡ 32) × AreBlanks cs

-- leading digits: their value, how many they are, and what follows
pub record Span : Type 0 where
  pub number : ℕ
  pub count : ℕ
  pub rest : List ℕ

-- whether the character is a decimal digit
abbrev pub is_decimal : ℕ → Bool
is_decimal c = nat_le 48 c && nat_le c 57

-- leading digits appended to a number n of k digits
abbrev pub span : ℕ → ℕ → List ℕ → Span
span n k [] = record { number = n; count = k; rest = [] }
span n k (c ∷ cs) = if is_decimal c then span (n * 10 + (c - 48)) (k + 1) cs
    else record { number = n; count = k; rest = c ∷ cs }

-- digits with at most one point: the number without the point, how many digits, how many after the point, what follows
pub record Mantissa : Type 0 where
  pub number : ℕ
  pub count : ℕ
  pub places : ℕ
  pub rest : List ℕ

-- the mantissa of digits of which all but the first k follow the point
abbrev pub with_places : ℕ → Span → Mantissa
with_places k s = record { number = s.number; count = s.count; places = s.count - k; rest = s.rest }

-- the mantissa of k digits with value n and an optional point and digits after them
abbrev pub after_whole : ℕ → ℕ → List ℕ → Mantissa
after_whole n k [] = record { number = n; count = k; places = 0; rest = [] }
after_whole n k (c ∷ cs) = if c == 46 then with_places k (span n k cs)
    else record { number = n; count = k; places = 0; rest = c ∷ cs }

-- the mantissa at the start of a text
abbrev pub mantissa : List ℕ → Mantissa
mantissa cs = let s = span 0 0 cs in after_whole s.number s.count s.rest

-- whether the text is empty
abbrev pub is_nothing : List ℕ → Bool
is_nothing [] = true
is_nothing (c ∷ cs) = false

-- one to three digits that end the text
abbrev pub exponent_digits : Bool → List ℕ → Option ℤ
exponent_digits minus cs =
    let s = span 0 0 cs in
    if is_nothing s.rest && nat_le 1 s.count && nat_le s.count 3 then Some (signed minus s.number) else None

-- an exponent with an optional sign, to the end of the text
abbrev pub signed_exponent : List ℕ → Option ℤ
signed_exponent [] = None
signed_exponent (c ∷ cs) =
    if c == 45 then exponent_digits true cs
    else if c == 43 then exponent_digits false cs
    else exponent_digits false (c ∷ cs)

-- the exponent that follows a mantissa, 0 if nothing does
abbrev pub exponent_after : List ℕ → Option ℤ
exponent_after [] = Some (pos 0)
exponent_after (c ∷ cs) = if is_letter c then signed_exponent cs else None

-- the value of a text without its sign; None if it is not in the grammar
abbrev pub reading : List ℕ → Option Reading
reading cs =
    let m = mantissa cs in
    if nat_le 1 m.count && nat_le m.count 18
    then option_map (λ e. record { digits = m.number; exponent = e -ℤ pos m.places }) (exponent_after m.rest)
    else None

-- a value with its sign
abbrev pub with_sign : Bool → Option Reading → Option Decimal
with_sign minus r = option_map (λ v. record { minus = minus; value = v }) r

-- the value of a text without leading and trailing blanks; None if it is not in the grammar
abbrev pub decimal_of : List ℕ → Option Decimal
decimal_of [] = None
decimal_of (c ∷ cs) =
    if c == 45 then with_sign true (reading cs)
    else if c == 43 then with_sign false (reading cs)
    else with_sign false (reading (c ∷ cs))

-- a value divided by the size s of a scale
abbrev pub at_size : Fraction → Reading → Fraction
at_size s r = divided (scaled r.digits (ten_to r.exponent)) s

-- the text is in the grammar, and z is the integer nearest to its value divided by the size s
pub record StandsFor (s : Fraction) (text : List ℕ) (z : ℤ) : Type 0 where
  pub decimal : Decimal
  pub read : IsDecimalText (trim_end (trim_start text)) decimal
  pub nearest : IsNearest (at_size s decimal.value) (unsigned_abs z)
  pub sign : z ≡ signed decimal.minus (unsigned_abs z)

-- what a text says: blanks alone, no number, or a number
pub data NumberSeen : Type 0 where
  blank : NumberSeen
  unread : NumberSeen
  number : ℤ → NumberSeen

-- what a value in the grammar says at the size s
abbrev pub seen_decimal : Fraction → Option Decimal → NumberSeen
seen_decimal s None = unread
seen_decimal s (Some d) = number (signed d.minus (nearest_to (at_size s d.value)))

-- what a text without leading and trailing blanks says at the size s
abbrev pub seen_trimmed : Fraction → List ℕ → NumberSeen
seen_trimmed s [] = blank
seen_trimmed s (c ∷ cs) = seen_decimal s (decimal_of (c ∷ cs))

-- what a text says at the size s, before the range is checked
unfoldable pub seen : Fraction → List ℕ → NumberSeen
seen s text = seen_trimmed s (trim_end (trim_start text))

-- the number, if in range, or the first error
abbrev pub read_of : ℤ → ℤ → NumberSeen → Result ℤ DecimalFault
read_of low high blank = Err faults.Blank
read_of low high unread = Err faults.NotANumber
read_of low high (number z) = if int_le low z && int_le z high then Ok z else Err faults.OutOfRange
