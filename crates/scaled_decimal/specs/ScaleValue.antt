-- The value of a scale as an exact fraction, and the ranges of its parts.
use Rattle.std.specs.Prelude.{◌≡◌, ◌⊎◌, ℕ, ◌*◌, ◌^◌, ◌<◌, ◌≤◌, Bool, true, false, ℤ, pos, negsuc, ◌≤ℤ◌}
use Rattle.scaled_decimal.specs.declared.scales.Scale.{Scale}
use Rattle.scaled_decimal.specs.Fractions.{Fraction, times, two_to, ten_to}

-- pi to the 14 digits of IS-GPS-200 (20.3.3.4.3) and the Galileo OS SIS ICD (5.1.1); 1 if the scale
-- has no pi
abbrev pub pi_part : Bool → Fraction
pi_part true = record { over = 31415926535898; under = 10 ^ 13 }
pi_part false = record { over = 1; under = 1 }

-- the value of a scale: factor x 2^two x 10^ten, times pi if the scale has it
abbrev pub size_of : Scale → Fraction
size_of s = times (record { over = s.factor; under = 1 }) (times (two_to s.two) (times (ten_to s.ten) (pi_part s.pi)))

-- the factors and exponents of a scale: factor 1 to 60, two -59 to 16, ten -2 to 0
abbrev pub AreWithin : ℕ → ℤ → ℤ → Type 0
AreWithin factor two ten = (1 ≤ factor) × (factor ≤ 60) × (negsuc 58 ≤ℤ two) × (two ≤ℤ pos 16) × (negsuc 1 ≤ℤ ten) × (ten ≤ℤ pos 0)

-- further factors and exponents, of a scale without pi: factor 1 to 1000; two -66 to -60 and ten 0, or two 0 and ten -10 to 0
abbrev pub AreFar : Bool → ℕ → ℤ → ℤ → Type 0
AreFar pi factor two ten = (pi ≡ false) × (1 ≤ factor) × (factor ≤ 1000)
    × (((negsuc 65 ≤ℤ two) × (two ≤ℤ negsuc 59) × (ten ≡ pos 0)) ⊎ ((two ≡ pos 0) × (negsuc 9 ≤ℤ ten) × (ten ≤ℤ pos 0)))

-- the scales that are taken
abbrev pub IsAccepted : Scale → Type 0
IsAccepted s = AreWithin s.factor s.two s.ten ⊎ AreFar s.pi s.factor s.two s.ten

-- a size at which each number up to 4,294,967,295 has an exponent of -20 to 16
pub record IsScale (s : Fraction) : Type 0 where
  pub some : 0 < s.over
  pub under : 0 < s.under
  pub least : s.under ≤ s.over * 10 ^ 20
  pub most : 4294967295 * s.over < 10 ^ 17 * s.under
