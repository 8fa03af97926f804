-- Accuracy, health and fit interval as written in RINEX. Accuracies are in centimetres here.
use Rattle.std.specs.Prelude.{ℕ, zero, suc, ◌+◌, ◌-◌, ◌*◌, ◌==◌, nat_lt, nat_le, if◌then◌else◌, List, [], ◌∷◌, ℤ, pos, negsuc}
use Rattle.nav_eph.specs.declared.galileo.GalHealth.{GalHealth}

-- the index of the first number that is at least n, or the length if there is none
abbrev pub first_from : ℕ → List ℕ → ℕ
first_from n [] = 0
first_from n (x ∷ xs) = if nat_le n x then 0 else suc (first_from n xs)

-- the nominal values of URA indices 0 to 15 (IS-GPS-200, 20.3.3.3.1.3); 15 is written as 8192 m
unfoldable pub ura_nominal : List ℕ
ura_nominal =
    200 ∷ 280 ∷ 400 ∷ 570 ∷ 800 ∷ 1130 ∷ 1600 ∷ 3200 ∷ 6400 ∷ 12800 ∷ 25600 ∷ 51200 ∷ 102400 ∷ 204800 ∷ 409600 ∷ 819200 ∷ []

-- the upper bounds of URA indices 0 to 14 (IS-GPS-200, 20.3.3.3.1.3)
unfoldable pub ura_greatest : List ℕ
ura_greatest = 240 ∷ 340 ∷ 485 ∷ 685 ∷ 965 ∷ 1365 ∷ 2400 ∷ 4800 ∷ 9600 ∷ 19200 ∷ 38400 ∷ 76800 ∷ 153600 ∷ 307200 ∷ 614400 ∷ []

-- the URA index of a value: the least whose upper bound is at least the value, else 15; 15 for a negative value
unfoldable pub ura_of : ℤ → ℤ
ura_of (pos n) = pos (first_from n ura_greatest)
ura_of (negsuc n) = pos 15

-- the value of a SISA index 0 to 125 (Galileo OS SIS ICD, 5.1.12)
abbrev pub sisa_value : ℕ → ℕ
sisa_value i =
    if nat_lt i 50 then i
    else if nat_lt i 75 then 50 + 2 * (i - 50)
    else if nat_lt i 100 then 100 + 4 * (i - 75)
    else 200 + 16 * (i - 100)

-- the value that is written for a SISA index: -1 m for 255, no accuracy prediction available
unfoldable pub sisa_nominal : ℕ → ℤ
sisa_nominal i = if i == 255 then negsuc 99 else pos (sisa_value i)

-- the least index of the k from i on whose value is at least n, or i + k if there is none
unfoldable pub sisa_from : ℕ → ℕ → ℕ → ℕ
sisa_from zero i n = i
sisa_from (suc k) i n = if nat_le n (sisa_value i) then i else sisa_from k (i + 1) n

-- the SISA index of a value: the least whose value is at least that; 255 for a negative value or one above 6 m
unfoldable pub sisa_of : ℤ → ℤ
sisa_of (pos n) = if nat_le n 600 then pos (sisa_from 125 0 n) else pos 255
sisa_of (negsuc n) = pos 255

-- the fit interval in hours: 4 for flag 0, else 6 (IS-GPS-200, 20.3.3.4.3.1)
abbrev pub fit_hours : ℕ → ℕ
fit_hours zero = 4
fit_hours (suc n) = 6

-- the SV health of a Galileo satellite as one number: bit 0 E1-B DVS, bits 1-2 E1-B HS, bits 3-5 (E5a) 0, bit 6 E5b DVS, bits
-- 7-8 E5b HS (RINEX 4.01, Galileo INAV navigation records)
abbrev pub health_of : GalHealth → ℕ
health_of h = h.dvs_e1b + 2 * h.hs_e1b + 64 * h.dvs_e5b + 128 * h.hs_e5b
