-- What stands in columns of a line: texts, numbers, satellites and dates, as the reader takes them and as the relation says.
use Rattle.std.proofs.Common.{◌≡◌, ℕ, ◌+◌, ◌-◌, ◌*◌, ◌/◌, ◌%◌, ◌<◌, ◌≤◌, ◌==◌, ◌&&◌, ◌||◌, nat_le, Bool, true, false, if◌then◌else◌, List, [], ◌∷◌, length, drop, get_or, Result, Ok, Err, refl, ap, ap₂, sym, ◌∙◌, subst, inl, inr, arith, eq-eqb, ne_eqb, eqb-true, le-leb}
use Rattle.std.proofs.lemmas.Bool.{and_parts, leb-true}
use Rattle.scaled_decimal.specs.Grammar.{AreDecimals, number_behind}
use Rattle.scaled_decimal.specs.NumberText.{digits}
use Rattle.scaled_decimal.specs.NumberReading.{Span, span, is_decimal, is_nothing}
use Rattle.nav_eph.specs.Weeks.{IsMoment}
use Rattle.nav_eph.specs.Dates.{GivesMoment, IsCivilOf}
use Rattle.nav_eph.specs.Functions.{moment_to}
use Rattle.nav_eph.specs.declared.calendar.Civil.{Civil}
use Rattle.nav_eph.specs.declared.calendar.WeekFault.{WeekFault}
use Rattle.nav_eph.specs.declared.calendar.WeekFault.TheVariants as weeks
use Rattle.nav_eph.proofs.Surface.{moment_to-answer, moment_to-again}
use Rattle.nav_eph.specs.Satellite.{Satellite, IsSat, most}
use Rattle.nav_eph.specs.declared.sat.System.{System}
use Rattle.nav_eph.specs.declared.sat.System.TheVariants.{Gps, Gal}
use Rattle.rinex_write.specs.Texts.{letter_of}
use Rattle.rinex_read.specs.declared.reason.RecordFault.{RecordFault}
use Rattle.rinex_read.specs.declared.reason.RecordFault.TheVariants as reasons
use Rattle.rinex_read.specs.Lines.{columns, stands_at}
use Rattle.rinex_read.specs.Fields.{◌>>=◌}
use Rattle.rinex_read.specs.Judging.{need, named, satellite_of, digits_alone, whole_number, date_of, moment_stated, moment_at}
use Rattle.job_laws.specs.RinexRecords.{trimmed, IsNumber, IsSatellite, IsEpoch}

-- a result that came of a value with which it was continued
pub record Bound {A B : Type 0} (r : Result A RecordFault) (f : A → Result B RecordFault) (y : B) : Type 0 where
  pub value : A
  pub is : r ≡ Ok value
  pub rest : f value ≡ Ok y

pub bound : {A B : Type 0} (r : Result A RecordFault) (f : A → Result B RecordFault) (y : B) → (r >>= f) ≡ Ok y → Bound r f y
bound (Ok x) f y h = record { value = x; is = refl; rest = h }
bound (Err e) f y h = absurd (cc)

pub go_on : {A B : Type 0} (r : Result A RecordFault) (x : A) (f : A → Result B RecordFault) → r ≡ Ok x → (r >>= f) ≡ f x
go_on r x f e = ap (λ s. s >>= f) e

pub needed : (b : Bool) (e : RecordFault) (x : Bool) → need b e ≡ Ok x → b ≡ true
needed true e x h = refl
needed false e x h = absurd (cc)

-- the value if the condition holds
pub if_ok : {A : Type 0} (b : Bool) (x y : A) (e : RecordFault) → (if b then Ok x else Err e) ≡ Ok y → (b ≡ true) × (x ≡ y)
if_ok true x y e h = (refl, cc)
if_ok false x y e h = absurd (cc)

-- a text stands at an offset exactly if it is in the columns there
pub stands-columns : (text : List ℕ) (a : ℕ) (line : List ℕ) → stands_at a text line ≡ true → columns a (length text) line ≡ text
unfolding columns stands_at
stands-columns [] a line h = refl
stands-columns (c ∷ cs) a line h =
    let both = and_parts (get_or line a 32 == c) (stands_at (a + 1) cs line) h in
    ap₂ (λ (x : ℕ) (xs : List ℕ). x ∷ xs) (eqb-true (get_or line a 32) c both.0) (stands-columns cs (a + 1) line both.1)

pub columns-stands : (text : List ℕ) (a : ℕ) (line : List ℕ) → columns a (length text) line ≡ text → stands_at a text line ≡ true
unfolding columns stands_at
columns-stands [] a line e = refl
columns-stands (c ∷ cs) a line e =
    let first : get_or line a 32 ≡ c = ap (λ (l : List ℕ). get_or l 0 0) e in
    let rest : columns (a + 1) (length cs) line ≡ cs = ap (λ (l : List ℕ). drop 1 l) e in
    ap (λ b. b && stands_at (a + 1) cs line) (eq-eqb (get_or line a 32) c first) ∙ columns-stands cs (a + 1) line rest

pub decimal_test : (c : ℕ) → 48 ≤ c → c ≤ 57 → is_decimal c ≡ true
decimal_test c from to = ap (λ b. b && nat_le c 57) (le-leb 48 c from) ∙ le-leb c 57 to

pub decimal_parts : (c : ℕ) → is_decimal c ≡ true → (48 ≤ c) × (c ≤ 57)
decimal_parts c h = let both = and_parts (nat_le 48 c) (nat_le c 57) h in (leb-true 48 c both.0, leb-true c 57 both.1)

-- digits alone, and what they are
span_decimals : (cs : List ℕ) (n k : ℕ) → AreDecimals cs → span n k cs ≡ record { number = number_behind n cs; count = k + length cs; rest = [] }
span_decimals [] n k h = ap (λ c. record { number = n; count = c; rest = [] }) (omega arith)
span_decimals (c ∷ cs) n k h =
    ap (λ b. if b then span (n * 10 + (c - 48)) (k + 1) cs else record { number = n; count = k; rest = c ∷ cs }) (decimal_test c h.0 h.1)
    ∙ span_decimals cs (n * 10 + (c - 48)) (k + 1) h.2
    ∙ ap (λ j. record { number = number_behind (n * 10 + (c - 48)) cs; count = j; rest = [] }) (omega arith)

span_all : (cs : List ℕ) (n k : ℕ) → is_nothing (span n k cs).rest ≡ true → AreDecimals cs
span_all [] n k h = tt
span_all (c ∷ cs) n k h = go (is_decimal c) refl h (span_all cs (n * 10 + (c - 48)) (k + 1))
  where
    go : (b : Bool) → is_decimal c ≡ b → is_nothing (Span.rest (if b then span (n * 10 + (c - 48)) (k + 1) cs else record { number = n; count = k; rest = c ∷ cs })) ≡ true
        → (is_nothing (span (n * 10 + (c - 48)) (k + 1) cs).rest ≡ true → AreDecimals cs) → AreDecimals (c ∷ cs)
    go true e h more = let own = decimal_parts c e in (own.0, own.1, more h)
    go false e h more = absurd (cc)

pub number-stands : (text : List ℕ) (n : ℕ) → whole_number text ≡ Ok n → IsNumber text n
unfolding whole_number
number-stands text n h =
    let s = span 0 0 (trimmed text) in
    let is = if_ok (is_nothing s.rest && nat_le 1 s.count) s.number n reasons.NotANumber h in
    let both = and_parts (is_nothing s.rest) (nat_le 1 s.count) is.0 in
    let all = span_all (trimmed text) 0 0 both.0 in
    let same = span_decimals (trimmed text) 0 0 all in
    let count : s.count ≡ 0 + length (trimmed text) = ap (λ (t : Span). t.count) same in
    record {
      digits = all;
      some = omega (arith, count, leb-true 1 s.count both.1);
      value = sym is.1 ∙ ap (λ (t : Span). t.number) same;
    }

pub number-read : (text : List ℕ) (n : ℕ) → IsNumber text n → whole_number text ≡ Ok n
unfolding whole_number
number-read text n h =
    let count : nat_le 1 (0 + length (trimmed text)) ≡ true = le-leb 1 (0 + length (trimmed text)) (omega (arith, h.some)) in
    ap digits_alone (span_decimals (trimmed text) 0 0 h.digits)
    ∙ ap (λ b. if b then Ok (number_behind 0 (trimmed text)) else Err reasons.NotANumber) count
    ∙ ap Ok (sym h.value)

-- the satellite of a system with a number
abbrev pub IsOf : System → Satellite → Type 0
IsOf system sat = (sat.system ≡ system) × IsSat sat.system sat.number

named_is : (system : System) (n : ℕ) (sat : Satellite) → named system n ≡ Ok sat → (◌≡◌ {A = Satellite} (record { system = system; number = n }) sat) × IsSat system n
named_is system n sat h =
    let is = if_ok {A = Satellite} (nat_le 1 n && nat_le n (most system)) (record { system = system; number = n }) sat reasons.BadSat h in
    let both = and_parts (nat_le 1 n) (nat_le n (most system)) is.0 in
    (is.1, (leb-true 1 n both.0, leb-true n (most system) both.1))

blank_satellite : (system : System) (ones : ℕ) → 48 ≤ ones → ones ≤ 57 → IsSatellite (record { system = system; number = 0 + (ones - 48) }) (letter_of system ∷ 32 ∷ ones ∷ [])
unfolding digits
blank_satellite system ones from to = inr (omega arith, ap (λ (c : ℕ). letter_of system ∷ 32 ∷ c ∷ []) (omega arith))

two_satellite : (system : System) (tens ones : ℕ) → 48 ≤ tens → tens ≤ 57 → 48 ≤ ones → ones ≤ 57
    → IsSatellite (record { system = system; number = 10 * (tens - 48) + (ones - 48) }) (letter_of system ∷ tens ∷ ones ∷ [])
unfolding digits
two_satellite system tens ones low high from to =
    inl (ap₂ (λ (c d : ℕ). letter_of system ∷ c ∷ d ∷ []) (omega arith) (omega arith))

-- the satellite that is read, if the letter of its system is before it
pub satellite-stands : (system : System) (tens ones : ℕ) (sat : Satellite) → satellite_of system tens ones ≡ Ok sat → IsOf system sat × IsSatellite sat (letter_of system ∷ tens ∷ ones ∷ [])
satellite-stands system tens ones sat h = first (is_decimal ones) refl h
  where
    number : Bool → ℕ
    number b = (if b then 0 else 10 * (tens - 48)) + (ones - 48)

    made : (n : ℕ) → IsSatellite (record { system = system; number = n }) (letter_of system ∷ tens ∷ ones ∷ []) → named system n ≡ Ok sat
        → IsOf system sat × IsSatellite sat (letter_of system ∷ tens ∷ ones ∷ [])
    made n stands e =
        let is = named_is system n sat e in
        subst (λ (s : Satellite). IsOf system s × IsSatellite s (letter_of system ∷ tens ∷ ones ∷ [])) is.0 ((refl, is.1), stands)

    second : (b : Bool) → (tens == 32) ≡ b → is_decimal ones ≡ true → (if b || is_decimal tens then named system ((if b then 0 else 10 * (tens - 48)) + (ones - 48)) else Err reasons.BadSat) ≡ Ok sat
        → IsOf system sat × IsSatellite sat (letter_of system ∷ tens ∷ ones ∷ [])
    second true p ok e =
        let own = decimal_parts ones ok in
        let is : tens ≡ 32 = eqb-true tens 32 p in
        made (0 + (ones - 48)) (subst (λ t. IsSatellite (record { system = system; number = 0 + (ones - 48) }) (letter_of system ∷ t ∷ ones ∷ [])) (sym is) (blank_satellite system ones own.0 own.1)) e
    second false p ok e = third (is_decimal tens) refl ok e
      where
        third : (b : Bool) → is_decimal tens ≡ b → is_decimal ones ≡ true → (if b then named system (10 * (tens - 48) + (ones - 48)) else Err reasons.BadSat) ≡ Ok sat
            → IsOf system sat × IsSatellite sat (letter_of system ∷ tens ∷ ones ∷ [])
        third true q ok e =
            let own = decimal_parts ones ok in
            let other = decimal_parts tens q in
            made (10 * (tens - 48) + (ones - 48)) (two_satellite system tens ones other.0 other.1 own.0 own.1) e
        third false q ok e = absurd (cc)

    first : (b : Bool) → is_decimal ones ≡ b → (if b && (tens == 32 || is_decimal tens) then named system ((if tens == 32 then 0 else 10 * (tens - 48)) + (ones - 48)) else Err reasons.BadSat) ≡ Ok sat
        → IsOf system sat × IsSatellite sat (letter_of system ∷ tens ∷ ones ∷ [])
    first true p e = second (tens == 32) refl p e
    first false p e = absurd (cc)

pub satellite-read : (sat : Satellite) (letter tens ones : ℕ) → IsSat sat.system sat.number → IsSatellite sat (letter ∷ tens ∷ ones ∷ [])
    → (satellite_of sat.system tens ones ≡ Ok sat) × (letter ≡ letter_of sat.system)
unfolding digits
satellite-read sat letter tens ones is (inl e) =
    let n = sat.number in
    let few : n ≤ 36 = few_of sat.system n is.1 in
    let first : letter ≡ letter_of sat.system = ap (λ (l : List ℕ). get_or l 0 0) e in
    let second : tens ≡ 48 + n / 10 % 10 = ap (λ (l : List ℕ). get_or l 1 0) e in
    let third : ones ≡ 48 + n % 10 = ap (λ (l : List ℕ). get_or l 2 0) e in
    let one : is_decimal ones ≡ true = decimal_test ones (omega arith) (omega arith) in
    let ten : is_decimal tens ≡ true = decimal_test tens (omega arith) (omega arith) in
    let some : (tens == 32) ≡ false = ne_eqb tens 32 (λ q. omega arith) in
    let low : nat_le 1 n ≡ true = le-leb 1 n is.0 in
    let high : nat_le n (most sat.system) ≡ true = le-leb n (most sat.system) is.1 in
    let number : 10 * (tens - 48) + (ones - 48) ≡ n = omega arith in
    (rw (one, some, ten, number, low, high) refl, first)
  where
    few_of : (system : System) (n : ℕ) → n ≤ most system → n ≤ 36
    few_of Gps n h = omega (arith, h)
    few_of Gal n h = h
satellite-read sat letter tens ones is (inr e) =
    let n = sat.number in
    let first : letter ≡ letter_of sat.system = ap (λ (l : List ℕ). get_or l 0 0) e.1 in
    let second : tens ≡ 32 = ap (λ (l : List ℕ). get_or l 1 0) e.1 in
    let third : ones ≡ 48 + n % 10 = ap (λ (l : List ℕ). get_or l 2 0) e.1 in
    let small : n < 10 = e.0 in
    let one : is_decimal ones ≡ true = decimal_test ones (omega arith) (omega arith) in
    let some : (tens == 32) ≡ true = eq-eqb tens 32 second in
    let low : nat_le 1 n ≡ true = le-leb 1 n is.0 in
    let high : nat_le n (most sat.system) ≡ true = le-leb n (most sat.system) is.1 in
    let number : 0 + (ones - 48) ≡ n = omega arith in
    (rw (one, some, number, low, high) refl, first)

moment-stands : (c : Civil) (answer : Result ℕ WeekFault) (m : ℕ) → GivesMoment c answer → moment_stated answer ≡ Ok m → IsCivilOf c m × IsMoment m
moment-stands c (Ok n) m g h = let is : n ≡ m = cc in subst (λ k. IsCivilOf c k × IsMoment k) is g
moment-stands c (Err weeks.NoSuchDate) m g h = absurd (cc)
moment-stands c (Err weeks.BeforeEpoch) m g h = absurd (cc)
moment-stands c (Err weeks.TooFar) m g h = absurd (cc)

abbrev date_with : List ℕ → ℕ → ℕ → ℕ → ℕ → ℕ → Result Civil RecordFault
date_with line year month day hour minute = whole_number (columns 21 2 line) >>= λ second. Ok (record { year = year; month = month; day = day; hour = hour; minute = minute; second = second })

date-made : (line : List ℕ) (m year month day hour minute second : ℕ) (date : Civil) → ◌≡◌ {A = Result Civil RecordFault} (Ok (record { year = year; month = month; day = day; hour = hour; minute = minute; second = second })) (Ok date)
    → IsNumber (columns 4 4 line) year → IsNumber (columns 9 2 line) month → IsNumber (columns 12 2 line) day → IsNumber (columns 15 2 line) hour → IsNumber (columns 18 2 line) minute
    → IsNumber (columns 21 2 line) second → IsCivilOf date m × IsMoment m → IsEpoch line m
date-made line m year month day hour minute second date e y mo d ho mi s time =
    let own : Civil = record { year = year; month = month; day = day; hour = hour; minute = minute; second = second } in
    let is : ◌≡◌ {A = Civil} date own = cc in
    record {
      date = own;
      year = y;
      month = mo;
      day = d;
      hour = ho;
      minute = mi;
      second = s;
      time = subst (λ c. IsCivilOf c m) is time.0;
      within = time.1;
    }

-- the GPS time of the date of a line
pub epoch-stands : (line : List ℕ) (m : ℕ) → moment_at line ≡ Ok m → IsEpoch line m
unfolding date_of
epoch-stands line m h =
    let all = bound (date_of line) (λ date. moment_stated (moment_to date)) m h in
    let year = bound (whole_number (columns 4 4 line)) (λ y. whole_number (columns 9 2 line) >>= λ mo. whole_number (columns 12 2 line) >>= λ d. whole_number (columns 15 2 line) >>= λ ho. whole_number (columns 18 2 line) >>= λ mi. date_with line y mo d ho mi) all.value all.is in
    let month = bound (whole_number (columns 9 2 line)) (λ mo. whole_number (columns 12 2 line) >>= λ d. whole_number (columns 15 2 line) >>= λ ho. whole_number (columns 18 2 line) >>= λ mi. date_with line year.value mo d ho mi) all.value year.rest in
    let day = bound (whole_number (columns 12 2 line)) (λ d. whole_number (columns 15 2 line) >>= λ ho. whole_number (columns 18 2 line) >>= λ mi. date_with line year.value month.value d ho mi) all.value month.rest in
    let hour = bound (whole_number (columns 15 2 line)) (λ ho. whole_number (columns 18 2 line) >>= λ mi. date_with line year.value month.value day.value ho mi) all.value day.rest in
    let minute = bound (whole_number (columns 18 2 line)) (λ mi. date_with line year.value month.value day.value hour.value mi) all.value hour.rest in
    let second = bound (whole_number (columns 21 2 line)) (λ s. Ok (record { year = year.value; month = month.value; day = day.value; hour = hour.value; minute = minute.value; second = s })) all.value minute.rest in
    date-made line m year.value month.value day.value hour.value minute.value second.value all.value second.rest (number-stands (columns 4 4 line) year.value year.is)
    (number-stands (columns 9 2 line) month.value month.is) (number-stands (columns 12 2 line) day.value day.is) (number-stands (columns 15 2 line) hour.value hour.is)
    (number-stands (columns 18 2 line) minute.value minute.is) (number-stands (columns 21 2 line) second.value second.is)
    (moment-stands all.value (moment_to all.value) m (moment_to-answer all.value) all.rest)

pub epoch-read : (line : List ℕ) (m : ℕ) → IsEpoch line m → moment_at line ≡ Ok m
unfolding date_of
epoch-read line m h =
    let year = number-read (columns 4 4 line) h.date.year h.year in
    let month = number-read (columns 9 2 line) h.date.month h.month in
    let day = number-read (columns 12 2 line) h.date.day h.day in
    let hour = number-read (columns 15 2 line) h.date.hour h.hour in
    let minute = number-read (columns 18 2 line) h.date.minute h.minute in
    let second = number-read (columns 21 2 line) h.date.second h.second in
    let date : date_of line ≡ Ok h.date = rw (year, month, day, hour, minute, second) refl in
    go_on (date_of line) h.date (λ c. moment_stated (moment_to c)) date ∙ ap moment_stated (moment_to-again h.date m h.time h.within)
