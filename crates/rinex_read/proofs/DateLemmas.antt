-- The date that is written is the one that is read.
use Rattle.std.proofs.Common.{◌≡◌, ◌≢◌, ℕ, ◌+◌, ◌/◌, ◌%◌, ◌^◌, ◌<◌, List, [], ◌∷◌, ◌++◌, if◌then◌else◌, Ok, refl, ap, sym, ◌∙◌, arith, append-nil, ne_eqb}
use Rattle.scaled_decimal.specs.NumberText.{digits}
use Rattle.scaled_decimal.specs.NumberReading.{trim_start, trim_end, span}
use Rattle.scaled_decimal.proofs.Surface.{span-digits}
use Rattle.scaled_decimal.proofs.Surface.{kept_behind, no_blank}
use Rattle.nav_eph.specs.declared.calendar.Civil.{Civil}
use Rattle.nav_eph.specs.Functions.{IsShort}
use Rattle.rinex_write.specs.Texts.{date_text}
use Rattle.rinex_read.specs.Lines.{columns}
use Rattle.rinex_read.specs.Judging.{digits_alone, whole_number, date_of}

-- a text that neither begins nor ends with a blank
not_trimmed : (x y : ℕ) (xs : List ℕ) → x ≢ 32 → y ≢ 32 → trim_end (trim_start (x ∷ (xs ++ y ∷ []))) ≡ x ∷ (xs ++ y ∷ [])
not_trimmed x y xs first last =
    ap (λ b. trim_end (if b then trim_start (xs ++ y ∷ []) else x ∷ (xs ++ y ∷ []))) (ne_eqb x 32 first)
    ∙ kept_behind (x ∷ xs) y [] (no_blank y last)

digits_read : (k n : ℕ) → n < 10 ^ k → span 0 0 (digits k n) ≡ record { number = n; count = k; rest = [] }
digits_read k n h =
    ap (span 0 0) (sym (append-nil (digits k n))) ∙ span-digits k 0 0 n [] h
    ∙ ap (λ i. span i (0 + k) []) (omega arith) ∙ ap (λ j. span n j []) (omega arith)

pub two_again : (n : ℕ) → n < 100 → whole_number (digits 2 n) ≡ Ok n
unfolding digits whole_number
two_again n h =
    ap (λ t. digits_alone (span 0 0 t)) (not_trimmed (48 + n / 10 % 10) (48 + n % 10) [] (λ e. omega arith) (λ e. omega arith))
    ∙ ap digits_alone (digits_read 2 n (omega arith))

pub four_again : (n : ℕ) → n < 10000 → whole_number (digits 4 n) ≡ Ok n
unfolding digits whole_number
four_again n h =
    ap (λ t. digits_alone (span 0 0 t)) (not_trimmed (48 + n / 10 / 10 / 10 % 10) (48 + n % 10) ((48 + n / 10 / 10 % 10) ∷ (48 + n / 10 % 10) ∷ [])
    (λ e. omega arith) (λ e. omega arith))
    ∙ ap digits_alone (digits_read 4 n (omega arith))

year_at : (a b c d : ℕ) (date : Civil) (tail : List ℕ) → columns 4 4 (a ∷ b ∷ c ∷ d ∷ (date_text date ++ tail)) ≡ digits 4 date.year
unfolding columns date_text digits
year_at a b c d date tail = refl

month_at : (a b c d : ℕ) (date : Civil) (tail : List ℕ) → columns 9 2 (a ∷ b ∷ c ∷ d ∷ (date_text date ++ tail)) ≡ digits 2 date.month
unfolding columns date_text digits
month_at a b c d date tail = refl

day_at : (a b c d : ℕ) (date : Civil) (tail : List ℕ) → columns 12 2 (a ∷ b ∷ c ∷ d ∷ (date_text date ++ tail)) ≡ digits 2 date.day
unfolding columns date_text digits
day_at a b c d date tail = refl

hour_at : (a b c d : ℕ) (date : Civil) (tail : List ℕ) → columns 15 2 (a ∷ b ∷ c ∷ d ∷ (date_text date ++ tail)) ≡ digits 2 date.hour
unfolding columns date_text digits
hour_at a b c d date tail = refl

minute_at : (a b c d : ℕ) (date : Civil) (tail : List ℕ) → columns 18 2 (a ∷ b ∷ c ∷ d ∷ (date_text date ++ tail)) ≡ digits 2 date.minute
unfolding columns date_text digits
minute_at a b c d date tail = refl

second_at : (a b c d : ℕ) (date : Civil) (tail : List ℕ) → columns 21 2 (a ∷ b ∷ c ∷ d ∷ (date_text date ++ tail)) ≡ digits 2 date.second
unfolding columns date_text digits
second_at a b c d date tail = refl

-- a date after four characters is read
pub date_again : (a b c d : ℕ) (date : Civil) (tail : List ℕ) → IsShort date → date_of (a ∷ b ∷ c ∷ d ∷ (date_text date ++ tail)) ≡ Ok date
unfolding date_of
date_again a b c d date tail short =
    let year = ap whole_number (year_at a b c d date tail) ∙ four_again date.year short.year in
    let month = ap whole_number (month_at a b c d date tail) ∙ two_again date.month short.month in
    let day = ap whole_number (day_at a b c d date tail) ∙ two_again date.day short.day in
    let hour = ap whole_number (hour_at a b c d date tail) ∙ two_again date.hour short.hour in
    let minute = ap whole_number (minute_at a b c d date tail) ∙ two_again date.minute short.minute in
    let second = ap whole_number (second_at a b c d date tail) ∙ two_again date.second short.second in
    rw (year, month, day, hour, minute, second) refl
