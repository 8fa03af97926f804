-- Days of GLONASS.
use Rattle.std.proofs.Common.{◌≡◌, ℕ, zero, suc, ◌+◌, ◌-◌, ◌*◌, ◌/◌, ◌<◌, ◌≤◌, ◌&&◌, ◌⊎◌, inl, inr}
use Rattle.std.proofs.Common.{Bool, true, false, refl, sym, ap, ◌∙◌, subst, arith, Option, Some}
use Rattle.std.proofs.Common.{None, if◌then◌else◌, pos, ◌+ℤ◌, ◌-ℤ◌}
use Rattle.std.specs.Prelude.{nat_le, nat_lt, nat_eq}
use Rattle.std.proofs.lemmas.Bool.{leb-true, ltb-true}
use Rattle.std.proofs.lemmas.Bool.Decides.{nat_tests}
use Rattle.std.proofs.lemmas.Int.{ints}
use Rattle.jiff_core.specs.Calendar.{days_from_civil, day_count, days_of_months, days_of_years}
use Rattle.jiff_core.specs.Calendar.{days_in_year}
use Rattle.nav_eph.specs.Dates.{first_day}
use Rattle.nav_tables.specs.declared.times.FrameTime.{FrameTime}
use Rattle.nav_tables.specs.declared.times.Times.{Times}
use Rattle.nav_tables.specs.Times.{IsTimeOf, day_of, times_by, times_to}
use Rattle.nav_tables.specs.Days.{start, days_of, day_of_number, distance, nearer, nearest_to}
use Rattle.nav_tables.specs.Days.{IsNearestDay}
use Rattle.nav_tables.proofs.WeekLemmas.{both}

pub start_low : (n : ℕ) → (b : Bool) → nat_lt n 28 ≡ b
    → start n + 1 ≤ 4378 + 1461 * n + 1 × 4377 + 1461 * n ≤ start n
start_low n true e = rw e (omega arith, omega arith)
start_low n false e = rw e (omega arith, omega arith)

pub start_up : (m n : ℕ) → m < n → start m < start n
start_up m n less =
    let a = start_low m (nat_lt m 28) refl in
    let b = start_low n (nat_lt n 28) refl in
    omega (arith, a.0, b.1)

-- day number nt of period n is d
pub record IsDayOf (n nt d : ℕ) : Type 0 where
  pub some : 1 ≤ nt
  pub few : nt ≤ days_of n
  pub is : d + 1 ≡ start n + nt

pub some_same : {a b : ℕ} → Some a ≡ Some b → a ≡ b
some_same e = cc

day_by : (n nt d : ℕ) (b : Bool) → (nat_le 1 nt && nat_le nt (days_of n)) ≡ b
    → day_of_number n nt ≡ Some d → IsDayOf n nt d
day_by n nt d true e h =
    let a = both (nat_le 1 nt) (nat_le nt (days_of n)) e in
    let some : 1 ≤ nt = leb-true 1 nt a.0 in
    let value : Some (start n + nt - 1) ≡ Some d = rw e at h in
    let is : start n + nt - 1 ≡ d = some_same value in
    record { some = some; few = leb-true nt (days_of n) a.1; is = omega (arith, some, is) }
day_by n nt d false e h = let value : None ≡ Some d = rw e at h in absurd cc

pub day_is : (n nt d : ℕ) → day_of_number n nt ≡ Some d → IsDayOf n nt d
day_is n nt d h = day_by n nt d _ refl h

-- ---- the nearest day

abbrev pub AreNearest : ℕ → ℕ → ℕ → Option ℕ → Type 0
AreNearest c nt k None = (j d : ℕ) → 1 ≤ j → j ≤ k → day_of_number j nt ≡ Some d → ⊥
AreNearest c nt k (Some d) = IsNearestDay c nt k d

last_or : (j k : ℕ) → j ≤ suc k → (j ≤ k) ⊎ (j ≡ suc k)
last_or j k h = grind arith

told : (j k nt d : ℕ) (o : Option ℕ) → j ≡ suc k → day_of_number (suc k) nt ≡ o
    → day_of_number j nt ≡ Some d → o ≡ Some d
told j k nt d o same is h = sym is ∙ ap (λ i. day_of_number i nt) (sym same) ∙ h

step_none : (c nt k : ℕ) (o : Option ℕ) → day_of_number (suc k) nt ≡ None → AreNearest c nt k o
    → AreNearest c nt (suc k) o
step_none c nt k None is old = λ j d one few h. elim (last_or j k few) [
  | inl l ↦ old j d one l h
  | inr same ↦ let e : None ≡ Some d = told j k nt d None same is h in absurd cc
]
step_none c nt k (Some a) is old = record {
  period = old.period;
  some = old.some;
  few = omega (arith, old.few);
  has = old.has;
  least = λ j d one few h. elim (last_or j k few) [
    | inl l ↦ old.least j d one l h
    | inr same ↦ let e : None ≡ Some d = told j k nt d None same is h in absurd cc
  ];
  first = λ j d one few h. elim (last_or j k few) [
    | inl l ↦ old.first j d one l h
    | inr same ↦ let e : None ≡ Some d = told j k nt d None same is h in absurd cc
  ];
}

step_first : (c nt k b : ℕ) → day_of_number (suc k) nt ≡ Some b → AreNearest c nt k None
    → IsNearestDay c nt (suc k) b
step_first c nt k b is old = record {
  period = suc k;
  some = omega arith;
  few = omega arith;
  has = is;
  least = λ j d one few h. elim (last_or j k few) [
    | inl l ↦ absurd (old j d one l h)
    | inr same ↦ let e : b ≡ d = some_same (told j k nt d (Some b) same is h) in omega arith
  ];
  first = λ j d one few h. elim (last_or j k few) [
    | inl l ↦ absurd (old j d one l h)
    | inr same ↦ let e : b ≡ d = some_same (told j k nt d (Some b) same is h) in omega arith
  ];
}

step_nearer : (c nt k a b : ℕ) → day_of_number (suc k) nt ≡ Some b → distance c b < distance c a
    → IsNearestDay c nt k a → IsNearestDay c nt (suc k) b
step_nearer c nt k a b is less old = record {
  period = suc k;
  some = omega arith;
  few = omega arith;
  has = is;
  least = λ j d one few h. elim (last_or j k few) [
    | inl l ↦ let old_least = old.least j d one l h in omega arith
    | inr same ↦ let e : b ≡ d = some_same (told j k nt d (Some b) same is h) in omega arith
  ];
  first = λ j d one few h same_distance. elim (last_or j k few) [
    | inl l ↦ let old_least = old.least j d one l h in absurd (omega arith)
    | inr same ↦ let e : b ≡ d = some_same (told j k nt d (Some b) same is h) in omega arith
  ];
}

pub later : (c nt k a b : ℕ) → day_of_number (suc k) nt ≡ Some b → IsNearestDay c nt k a → a < b
later c nt k a b is old =
    let x = day_is old.period nt a old.has in
    let y = day_is (suc k) nt b is in
    let up = start_up old.period (suc k) (omega (arith, old.few)) in
    omega (arith, x.is, y.is, up)

step_kept : (c nt k a b : ℕ) → day_of_number (suc k) nt ≡ Some b → distance c a ≤ distance c b
    → IsNearestDay c nt k a → IsNearestDay c nt (suc k) a
step_kept c nt k a b is least old =
    let after = later c nt k a b is old in
    record {
      period = old.period;
      some = old.some;
      few = omega (arith, old.few);
      has = old.has;
      least = λ j d one few h. elim (last_or j k few) [
        | inl l ↦ old.least j d one l h
        | inr same ↦ let e : b ≡ d = some_same (told j k nt d (Some b) same is h) in omega arith
      ];
      first = λ j d one few h same_distance. elim (last_or j k few) [
        | inl l ↦ old.first j d one l h same_distance
        | inr same ↦ let e : b ≡ d = some_same (told j k nt d (Some b) same is h) in omega arith
      ];
    }

step_by : (c nt k a b : ℕ) (t : Bool) → nat_lt (distance c b) (distance c a) ≡ t
    → day_of_number (suc k) nt ≡ Some b → IsNearestDay c nt k a
    → AreNearest c nt (suc k) (if t then Some b else Some a)
step_by c nt k a b true e is old
    = step_nearer c nt k a b is (ltb-true (distance c b) (distance c a) e) old
step_by c nt k a b false e is old
    = step_kept c nt k a b is
    (let h : distance c a ≤ distance c b = grind (arith, nat_tests) in h) old

step : (c nt k : ℕ) (o p : Option ℕ) → day_of_number (suc k) nt ≡ p → AreNearest c nt k o
    → AreNearest c nt (suc k) (nearer c o p)
step c nt k None None is old = step_none c nt k None is old
step c nt k (Some a) None is old = step_none c nt k (Some a) is old
step c nt k None (Some b) is old = step_first c nt k b is old
step c nt k (Some a) (Some b) is old
    = step_by c nt k a b (nat_lt (distance c b) (distance c a)) refl is old

pub nearest_is : (c nt k : ℕ) → AreNearest c nt k (nearest_to c nt k)
unfolding nearest_to
nearest_is c nt zero = λ j d one few h. absurd (omega arith)
nearest_is c nt (suc k)
    = step c nt k (nearest_to c nt k) (day_of_number (suc k) nt) refl (nearest_is c nt k)

pub nearest_some : (c nt k d : ℕ) → nearest_to c nt k ≡ Some d → IsNearestDay c nt k d
nearest_some c nt k d e = subst (AreNearest c nt k) e (nearest_is c nt k)

pub nearest_none : (c nt k j d : ℕ) → nearest_to c nt k ≡ None → 1 ≤ j → j ≤ k
    → day_of_number j nt ≡ Some d → ⊥
nearest_none c nt k j d e = subst (AreNearest c nt k) e (nearest_is c nt k) j d

-- ---- a day near the center is the nearest of its number

pub start_far : (m n : ℕ) → m < n → start m + 1460 ≤ start n
start_far m n less =
    let a = start_low m (nat_lt m 28) refl in
    let b = start_low n (nat_lt n 28) refl in
    omega (arith, a.0, b.1)

three : (p q : ℕ) → (p < q) ⊎ ((q < p) ⊎ (p ≡ q))
three p q = grind arith

pub same_day : (c p q nt d e : ℕ) → day_of_number p nt ≡ Some d → day_of_number q nt ≡ Some e
    → distance c d ≤ 729 → distance c e ≤ distance c d → e ≡ d
same_day c p q nt d e has other near least =
    let x = day_is p nt d has in
    let y = day_is q nt e other in
    elim (three p q) [
      | inl h ↦ let far = start_far p q h in absurd (omega (arith, x.is, y.is))
      | inr (inl h) ↦ let far = start_far q p h in absurd (omega (arith, x.is, y.is))
      | inr (inr h) ↦ some_same (sym other ∙ ap (λ j. day_of_number j nt) (sym h) ∙ has)
    ]

nearest_by : (c p nt d : ℕ) (o : Option ℕ) → 1 ≤ p → p ≤ 36 → day_of_number p nt ≡ Some d
    → distance c d ≤ 729 → AreNearest c nt 36 o → o ≡ Some d
nearest_by c p nt d None one few has near none = absurd (none p d one few has)
nearest_by c p nt d (Some e) one few has near is
    = ap Some (same_day c p is.period nt d e has is.has near (is.least p d one few has))

pub nearest_again : (c p nt d : ℕ) → 1 ≤ p → p ≤ 36 → day_of_number p nt ≡ Some d
    → distance c d ≤ 729 → nearest_to c nt 36 ≡ Some d
nearest_again c p nt d one few has near
    = nearest_by c p nt d (nearest_to c nt 36) one few has near (nearest_is c nt 36)

-- ---- dates

-- the days of k years from the year n - 10000 on
abbrev count : ℕ → ℕ → ℕ
count n zero = 0
count n (suc k) = count n k + days_in_year (pos (n + k) -ℤ pos 10000)

counted : (n k : ℕ) → days_of_years (n + k) ≡ days_of_years n + count n k
unfolding days_of_years
counted n zero = let e : n + 0 ≡ n = omega arith in let f : days_of_years n ≡ days_of_years n + 0
    = omega arith in ap days_of_years e ∙ f
counted n (suc k) =
    let next : n + suc k ≡ suc (n + k) = omega arith in
    let sum : days_of_years n + count n k + days_in_year
    (pos (n + k) -ℤ pos 10000) ≡ days_of_years n +
    (count n k + days_in_year (pos (n + k) -ℤ pos 10000)) = omega arith in
    ap days_of_years next ∙ ap (λ m. m + days_in_year (pos (n + k) -ℤ pos 10000)) (counted n k)
    ∙ sum

abbrev starts_hold : ℕ → Bool
starts_hold zero = true
starts_hold (suc k) = nat_eq (count 11980 (12 + 4 * suc k)) (start (suc k) + 5) && starts_hold k

all_starts_hold : starts_hold 36 ≡ true
all_starts_hold = refl

start_holds : (k n : ℕ) → starts_hold k ≡ true → 1 ≤ n → n ≤ k
    → count 11980 (12 + 4 * n) ≡ start n + 5
start_holds zero n e one few = absurd (omega arith)
start_holds (suc k) n e one few =
    let a = both (nat_eq (count 11980 (12 + 4 * suc k)) (start (suc k) + 5)) (starts_hold k) e in
    elim (last_or n k few) [
      | inl h ↦ start_holds k n a.1 one h
      | inr same ↦ let here : count 11980 (12 + 4 * suc k) ≡ start (suc k) + 5
          = grind (arith, nat_tests, a.0) in
          subst (λ m. count 11980 (12 + 4 * m) ≡ start m + 5) (sym same) here
    ]

pub start_date : (n : ℕ) → 1 ≤ n → n ≤ 36
    → first_day +ℤ pos (start n) ≡ days_from_civil (pos (1992 + 4 * n)) 1 1
unfolding days_from_civil day_count days_of_months
start_date n one few =
    let years : days_of_years (11980 + (12 + 4 * n)) ≡ days_of_years 11980 + (start n + 5)
    = counted 11980 (12 + 4 * n)
    ∙ ap (λ m. days_of_years 11980 + m) (start_holds 36 n all_starts_hold one few) in
    let place : 1992 + 4 * n + 10000 ≡ 11980 + (12 + 4 * n) = omega arith in
    let there : days_of_years (1992 + 4 * n + 10000) ≡ days_of_years 11980 + (start n + 5)
    = ap days_of_years place ∙ years in
    omega (arith, ints, there)

-- ---- the days of frames

day_few : (n nt d : ℕ) → 1 ≤ n → n ≤ 36 → day_of_number n nt ≡ Some d → (5839 ≤ d) × (d < 60000)
day_few n nt d one few h =
    let x = day_is n nt d h in
    let a = start_low n (nat_lt n 28) refl in
    let b = days_few n (nat_eq n 27) refl in
    let first = start_one n one in
    (omega (arith, x.is, x.some, first), omega (arith, x.is, x.few, a.0, b))
  where
    days_few : (n : ℕ) (b : Bool) → nat_eq n 27 ≡ b → days_of n ≤ 1461
    days_few n true e = rw e (omega arith)
    days_few n false e = rw e (omega arith)

    start_one : (n : ℕ) → 1 ≤ n → 5839 ≤ start n
    start_one zero one = absurd (omega arith)
    start_one (suc zero) one = omega arith
    start_one (suc (suc k)) one = let far
        = start_far 1 (suc (suc k)) (omega arith) in let first : start 1 ≡ 5839
        = refl in omega (arith, far, first)

nearest_few : (c nt d : ℕ) → nearest_to c nt 36 ≡ Some d → (5839 ≤ d) × (d < 60000)
nearest_few c nt d e = let is
    = nearest_some c nt 36 d e in day_few is.period nt d is.some is.few is.has

pub day_of_few : (t : FrameTime) (r d : ℕ) → t.period ≤ 31 → day_of t r ≡ Some d
    → (5839 ≤ d) × (d < 60000)
day_of_few t r d few h = day_of_by t r d (nat_eq t.additional 1 && nat_le 1 t.period) refl few h
  where
    day_of_by : (t : FrameTime) (r d : ℕ) (b : Bool)
        → (nat_eq t.additional 1 && nat_le 1 t.period) ≡ b → t.period ≤ 31 → day_of t r ≡ Some d
        → (5839 ≤ d) × (d < 60000)
    day_of_by t r d true e few h =
        let a = both (nat_eq t.additional 1) (nat_le 1 t.period) e in
        let value : day_of_number t.period t.day ≡ Some d = rw e at h in
        day_few t.period t.day d (leb-true 1 t.period a.1) (omega arith) value
    day_of_by t r d false e few h =
        let value : nearest_to (7 * r + 3) t.day 36 ≡ Some d = rw e at h in
        nearest_few (7 * r + 3) t.day d value

pub times_near : (t : FrameTime) (times : Times) (r : ℕ) → IsTimeOf t times → t.additional ≡ 0
    → distance (7 * r + 3) ((times.frame + 10800) / 86400) ≤ 729
    → times_to t r ≡ Some times
times_near t times r is none near =
    let d = (times.frame + 10800) / 86400 in
    let no : nat_eq t.additional 1 ≡ false = ap (λ n. nat_eq n 1) none in
    let which : day_of t r ≡ nearest_to (7 * r + 3) t.day 36
    = ap (λ b. if b && nat_le 1 t.period then day_of_number t.period t.day else nearest_to
    (7 * r + 3) t.day 36) no in
    let found : nearest_to (7 * r + 3) t.day 36 ≡ Some d
    = nearest_again (7 * r + 3) t.period t.day d is.some
    (omega (arith, is.range.period)) is.day near in
    ap (times_by t) (which ∙ found) ∙ ap Some is.time
