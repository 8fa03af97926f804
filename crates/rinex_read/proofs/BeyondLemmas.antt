-- A text is a number from 999,999,999 on if it is out of the range up to 999,999,998 and begins with no minus.
use Rattle.std.proofs.Common.{◌≡◌, ℕ, ◌==◌, ◌&&◌, not, Bool, true, false, if◌then◌else◌, List, [], ◌∷◌, Option, Some, None, Result, Ok, Err, refl, sym, subst, arith, ℤ, pos, negsuc, neg_ℤ, ◌≤ℤ◌, int_le}
use Rattle.std.proofs.lemmas.Int.{ints}
use Rattle.scaled_decimal.specs.declared.reading.DecimalFault.{DecimalFault}
use Rattle.scaled_decimal.specs.declared.reading.DecimalFault.TheVariants as faults
use Rattle.scaled_decimal.specs.Fractions.{Fraction, nearest_to}
use Rattle.scaled_decimal.specs.ScaleValue.{size_of}
use Rattle.scaled_decimal.specs.Values.{Reading}
use Rattle.scaled_decimal.specs.NumberReading.{NumberSeen, blank, unread, number, seen, seen_trimmed, seen_decimal, trim_start, trim_end, with_sign, reading, at_size, signed, read_of}
use Rattle.rinex_read.specs.Fields.{whole, is_beyond}
use Rattle.rinex_read.specs.Mirrors.{is_minus}
use Rattle.rinex_read.proofs.FieldLemmas.{le_from, not_le}

minus_low : (s : Fraction) (r : Option Reading) (z : ℤ) → seen_decimal s (with_sign true r) ≡ number z → z ≤ℤ pos 0
minus_low s None z h = absurd cc
minus_low s (Some v) z h = let is : signed true (nearest_to (at_size s v)) ≡ z = cc in subst (λ y. y ≤ℤ pos 0) is (low (nearest_to (at_size s v)))
  where
    low : (n : ℕ) → neg_ℤ (pos n) ≤ℤ pos 0
    low n = omega (arith, ints)

plus_high : (s : Fraction) (r : Option Reading) (z : ℤ) → seen_decimal s (with_sign false r) ≡ number z → pos 0 ≤ℤ z
plus_high s None z h = absurd cc
plus_high s (Some v) z h = let is : signed false (nearest_to (at_size s v)) ≡ z = cc in subst (λ y. pos 0 ≤ℤ y) is (omega (arith, ints))

-- a text that begins with a minus is no positive number, another is no negative one
record HasSign (minus : Bool) (z : ℤ) : Type 0 where
  pub low : minus ≡ true → z ≤ℤ pos 0
  pub high : minus ≡ false → pos 0 ≤ℤ z

sign_of : (s : Fraction) (t : List ℕ) (z : ℤ) → seen_trimmed s t ≡ number z → HasSign (is_minus t) z
sign_of s [] z h = absurd cc
sign_of s (c ∷ cs) z h = go (c == 45) (c == 43) h
  where
    go : (a b : Bool) → seen_decimal s (if a then with_sign true (reading cs) else if b then with_sign false (reading cs) else with_sign false (reading (c ∷ cs))) ≡ number z
        → HasSign a z
    go true b e = record { low = λ h. minus_low s (reading cs) z e; high = λ h. absurd cc }
    go false true e = record { low = λ h. absurd cc; high = λ h. plus_high s (reading cs) z e }
    go false false e = record { low = λ h. absurd cc; high = λ h. plus_high s (reading (c ∷ cs)) z e }

seen_sign : (text : List ℕ) (z : ℤ) → seen (size_of whole) text ≡ number z → HasSign (is_minus (trim_end (trim_start text))) z
unfolding seen
seen_sign text z h = sign_of (size_of whole) (trim_end (trim_start text)) z h

-- what the bounded reading tells
abbrev pub bounded : NumberSeen → Result ℤ DecimalFault
bounded v = read_of (negsuc 4294967294) (pos 999999998) v

-- where the reading is out of range, the sign tells
abbrev pub told : Result ℤ DecimalFault → Bool → Bool
told (Ok z) minus = false
told (Err faults.Blank) minus = false
told (Err faults.NotANumber) minus = false
told (Err faults.OutOfRange) minus = not minus

told_is : (v : NumberSeen) (minus : Bool) → ((z : ℤ) → v ≡ number z → HasSign minus z) → told (bounded v) minus ≡ is_beyond v
told_is blank minus sign = refl
told_is unread minus sign = refl
told_is (number z) minus sign = go (int_le (negsuc 4294967294) z) (int_le z (pos 999999998)) refl refl minus (sign z refl)
  where
    above : (y : ℤ) → int_le y (pos 999999998) ≡ false → int_le (pos 999999999) y ≡ true
    above y e = grind (arith, ints)

    under : (y : ℤ) → int_le (negsuc 4294967294) y ≡ false → pos 0 ≤ℤ y → ⊥
    under y e h = grind (arith, ints)

    go : (a b : Bool) → int_le (negsuc 4294967294) z ≡ a → int_le z (pos 999999998) ≡ b → (m : Bool) → HasSign m z
        → told (if a && b then Ok z else Err faults.OutOfRange) m ≡ int_le (pos 999999999) z
    go true true p q m h = let most = le_from z (pos 999999998) q in sym (not_le (pos 999999999) z (omega (arith, ints, most)))
    go true false p q true h = let low = h.low refl in sym (not_le (pos 999999999) z (omega (arith, ints, low)))
    go true false p q false h = sym (above z q)
    go false b p q true h = let low = h.low refl in sym (not_le (pos 999999999) z (omega (arith, ints, low)))
    go false b p q false h = let high = h.high refl in absurd (under z p high)

-- the reading and the sign tell whether the text is a number from 999,999,999 on
pub beyond_told : (text : List ℕ) → told (bounded (seen (size_of whole) text)) (is_minus (trim_end (trim_start text))) ≡ is_beyond (seen (size_of whole) text)
beyond_told text = told_is (seen (size_of whole) text) (is_minus (trim_end (trim_start text))) (seen_sign text)
