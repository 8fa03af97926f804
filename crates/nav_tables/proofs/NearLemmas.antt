-- The nearest day of a number is that of the center's period, of the one before or of the next.
use Rattle.std.proofs.Common.{◌≡◌, ℕ, zero, suc, ◌+◌, ◌-◌, ◌*◌, ◌/◌, ◌<◌, ◌≤◌, ◌⊎◌, inl, inr}
use Rattle.std.proofs.Common.{Bool, true, false, refl, sym, ap, ap₂, ◌∙◌, subst, arith, Option, Some, None}
use Rattle.std.proofs.Common.{min, max}
use Rattle.std.specs.Prelude.{nat_lt, nat_eq}
use Rattle.std.proofs.lemmas.Bool.{le-leb, lt-ltb, le-ltb, ltb-true}
use Rattle.std.proofs.lemmas.Bool.Decides.{nat_tests}
use Rattle.nav_tables.specs.Days.{start, days_of, day_of_number, distance, nearer, nearest_to}
use Rattle.nav_tables.specs.Days.{IsNearestDay, period_of}
use Rattle.nav_tables.proofs.DayLemmas.{AreNearest, day_is, later, nearest_is}
use Rattle.nav_tables.proofs.DayLemmas.{start_low, start_up}

-- the next period begins after the days of this one
next_start : (n : ℕ) → start n + days_of n ≡ start (suc n)
next_start n = by_tests (nat_lt n 28) (nat_lt (suc n) 28) (nat_eq n 27) refl refl refl
  where
    by_tests : (a b c : Bool) → nat_lt n 28 ≡ a → nat_lt (suc n) 28 ≡ b → nat_eq n 27 ≡ c
        → start n + days_of n ≡ start (suc n)
    by_tests a b c e f g = grind (arith, nat_tests)

most_days : (n : ℕ) → days_of n ≤ 1461
most_days n = by_test n (nat_eq n 27) refl
  where
    by_test : (n : ℕ) (b : Bool) → nat_eq n 27 ≡ b → days_of n ≤ 1461
    by_test n true e = rw e (omega arith)
    by_test n false e = rw e (omega arith)

-- the days of a number that has some: number 1461 has none in period 27
has_day : (n nt : ℕ) → 1 ≤ nt → nt ≤ 1461 → (n ≡ 27 → nt ≤ 1460)
    → day_of_number n nt ≡ Some (start n + nt - 1)
has_day n nt some few last = by_test n nt (nat_eq n 27) refl some few last
  where
    by_test : (n nt : ℕ) (b : Bool) → nat_eq n 27 ≡ b → 1 ≤ nt → nt ≤ 1461
        → (n ≡ 27 → nt ≤ 1460) → day_of_number n nt ≡ Some (start n + nt - 1)
    by_test n nt true e some few last =
        let less : nt ≤ 1460 = last (let same : n ≡ 27 = grind (arith, nat_tests) in same) in
        rw (le-leb 1 nt some, e, le-leb nt 1460 less) refl
    by_test n nt false e some few last = rw (le-leb 1 nt some, e, le-leb nt 1461 few) refl

record IsLeftOut (n nt : ℕ) : Type 0 where
  pub period : n ≡ 27
  pub number : nt ≡ 1461

left_out : (n nt : ℕ) → 1 ≤ nt → nt ≤ 1461 → day_of_number n nt ≡ None → IsLeftOut n nt
left_out n nt some few none = elim (where_it_is n nt few) [
  | inl less ↦ let is : day_of_number n nt ≡ Some (start n + nt - 1)
      = has_day n nt some few less in absurd (none_some (sym none ∙ is))
  | inr last ↦ last
]
  where
    none_some : {d : ℕ} → None ≡ Some d → ⊥
    none_some e = cc

    by_tests : (n nt : ℕ) (a b : Bool) → nat_eq n 27 ≡ a → nat_eq nt 1461 ≡ b → nt ≤ 1461
        → (n ≡ 27 → nt ≤ 1460) ⊎ IsLeftOut n nt
    by_tests n nt true true e f few = inr (record {
      period = grind (arith, nat_tests);
      number = grind (arith, nat_tests);
    })
    by_tests n nt false b e f few = inl (λ same. absurd (grind (arith, nat_tests)))
    by_tests n nt a false e f few = inl (λ same. grind (arith, nat_tests))

    where_it_is : (n nt : ℕ) → nt ≤ 1461 → (n ≡ 27 → nt ≤ 1460) ⊎ IsLeftOut n nt
    where_it_is n nt few = by_tests n nt (nat_eq n 27) (nat_eq nt 1461) refl refl few

-- ---- earlier periods

earlier_last : (c nt k a : ℕ) (q : Option ℕ) → start (suc (suc k)) ≤ c
    → IsNearestDay c nt k a → IsLeftOut (suc k) nt → day_of_number (suc (suc k)) nt ≡ q
    → nearer c (Some a) q ≡ nearer c None q
earlier_last c nt k a None from old out next =
    let is : day_of_number (suc (suc k)) nt ≡ Some (start (suc (suc k)) + nt - 1)
    = has_day (suc (suc k)) nt (omega (arith, out.number)) (omega (arith, out.number))
    (λ same. absurd (omega (arith, out.period, same))) in
    absurd (let e : None ≡ Some (start (suc (suc k)) + nt - 1) = sym next ∙ is in cc)
earlier_last c nt k a (Some b) from old out next =
    let x = day_is old.period nt a old.has in
    let y = day_is (suc (suc k)) nt b next in
    let low = start_low old.period (nat_lt old.period 28) refl in
    let high = start_low (suc (suc k)) (nat_lt (suc (suc k)) 28) refl in
    let less : distance c b < distance c a
    = omega (arith, x.is, y.is, low.0, high.1, old.few, out.period, out.number) in
    rw (lt-ltb (distance c b) (distance c a) less) refl

-- days of earlier periods are farther than one of the two before the center
earlier : (c nt k : ℕ) (o p q : Option ℕ) → start (suc (suc k)) ≤ c → AreNearest c nt k o
    → day_of_number (suc k) nt ≡ p → day_of_number (suc (suc k)) nt ≡ q
    → nearer c (nearer c o p) q ≡ nearer c p q
earlier c nt k None None q from old is next = refl
earlier c nt k None (Some b) q from old is next = refl
earlier c nt k (Some a) (Some b) q from old is next =
    let after = later c nt k a b is old in
    let x = day_is (suc k) nt b is in
    let up = next_start (suc k) in
    let less : distance c b < distance c a = omega (arith, after, x.is, x.few, up) in
    rw (lt-ltb (distance c b) (distance c a) less) refl
earlier c nt k (Some a) None q from old is next =
    let x = day_is old.period nt a old.has in
    let most = most_days old.period in
    let few : nt ≤ 1461 = omega (arith, x.few, most) in
    earlier_last c nt k a q from old (left_out (suc k) nt x.some few is) next

earlier_all : (c nt m : ℕ) → (1 ≤ m → start (suc (suc m)) ≤ c)
    → nearest_to c nt (suc (suc m))
    ≡ nearer c (day_of_number (suc m) nt) (day_of_number (suc (suc m)) nt)
unfolding nearest_to
earlier_all c nt zero from = none_before c (day_of_number 1 nt) (day_of_number 2 nt)
  where
    none_before : (c : ℕ) (p q : Option ℕ) → nearer c (nearer c None p) q ≡ nearer c p q
    none_before c None q = refl
    none_before c (Some b) q = refl
earlier_all c nt (suc k) from =
    earlier c nt (suc k) (nearest_to c nt (suc k)) _ _ (from (omega arith))
    (nearest_is c nt (suc k)) refl refl

-- ---- later periods

-- a day after the center, and none farther than the days of the period k
record IsAfter (c nt k e : ℕ) : Type 0 where
  pub period : ℕ
  pub some : 1 ≤ period
  pub few : period ≤ k
  pub has : day_of_number period nt ≡ Some e
  pub after : c ≤ e

after_by : (c nt k : ℕ) (o : Option ℕ) → 2 ≤ k → c < start k → 1 ≤ nt → nt ≤ 1461
    → day_of_number k nt ≡ o → (e : ℕ) × IsAfter c nt k e
after_by c nt k (Some e) two to some few is = (
  e,
  record {
    period = k;
    some = omega (arith, two);
    few = omega arith;
    has = is;
    after = let x = day_is k nt e is in omega (arith, x.is, x.some);
  },
)
after_by c nt k None two to some few is =
    let out = left_out k nt some few is in
    let here : start k ≡ start 27 = ap start out.period in (
      start 26 + nt - 1,
      record {
        period = 26;
        some = omega arith;
        few = omega (arith, out.period);
        has = has_day 26 nt some few (λ same. absurd (omega (arith, same)));
        after = omega (arith, here, out.number);
      },
    )

later_by : (c nt k : ℕ) (o p : Option ℕ) → 2 ≤ k → c < start k → AreNearest c nt k o
    → day_of_number (suc k) nt ≡ p → nearer c o p ≡ o
later_by c nt k None None two to old is = refl
later_by c nt k (Some a) None two to old is = refl
later_by c nt k None (Some b) two to old is =
    let x = day_is (suc k) nt b is in
    let most = most_days (suc k) in
    let near = after_by c nt k _ two to x.some (omega (arith, x.few, most)) refl in
    absurd (old near.1.period near.0 near.1.some near.1.few near.1.has)
later_by c nt k (Some a) (Some b) two to old is =
    let x = day_is (suc k) nt b is in
    let most = most_days (suc k) in
    let near = after_by c nt k _ two to x.some (omega (arith, x.few, most)) refl in
    let e = day_is near.1.period nt near.0 near.1.has in
    let up = start_up near.1.period (suc k) (omega (arith, near.1.few)) in
    let least = old.least near.1.period near.0 near.1.some near.1.few near.1.has in
    let more : distance c a ≤ distance c b = omega (arith, least, x.is, e.is, up, near.1.after) in
    rw (le-ltb (distance c b) (distance c a) more) refl

later_all : (c nt k n j : ℕ) → j ≡ n + k → 2 ≤ k → (1 ≤ n → c < start k)
    → nearest_to c nt j ≡ nearest_to c nt k
unfolding nearest_to
later_all c nt k zero j is two to = ap (nearest_to c nt) (let e : j ≡ k = omega arith in e)
later_all c nt k (suc n) j is two to =
    let i = n + k in
    let far : c < start i = omega (arith, to (omega arith), start_most k i (omega arith)) in
    ap (nearest_to c nt) (let e : j ≡ suc i = omega arith in e)
    ∙ later_by c nt i (nearest_to c nt i) _ (omega arith) far (nearest_is c nt i) refl
    ∙ later_all c nt k n i refl two (λ one. to (omega arith))
  where
    less_or : (m n : ℕ) → m ≤ n → (m < n) ⊎ (m ≡ n)
    less_or m n few = grind arith

    start_most : (m n : ℕ) → m ≤ n → start m ≤ start n
    start_most m n few = elim (less_or m n few) [
      | inl h ↦ let up = start_up m n h in omega (arith, up)
      | inr h ↦ let same = ap start h in omega (arith, same)
    ]

-- ---- three periods

three_periods : (c nt m : ℕ) → m ≤ 33 → (1 ≤ m → start (suc (suc m)) ≤ c)
    → (m ≤ 32 → c < start (suc (suc (suc m))))
    → nearest_to c nt 36
    ≡ nearer c (nearer c (day_of_number (suc m) nt) (day_of_number (suc (suc m)) nt))
    (day_of_number (suc (suc (suc m))) nt)
unfolding nearest_to
three_periods c nt m few from to =
    later_all c nt (suc (suc (suc m))) (33 - m) 36 (omega arith) (omega arith)
    (λ one. to (omega arith))
    ∙ ap (λ o. nearer c o (day_of_number (suc (suc (suc m))) nt)) (earlier_all c nt m from)

-- the period of the center, or of the least or the greatest day that has one before and one after
record IsPlace (c p : ℕ) : Type 0 where
  pub some : 2 ≤ p
  pub few : p ≤ 35
  pub from : 3 ≤ p → start p ≤ c
  pub to : p ≤ 34 → c < start (suc p)

start_before : (n : ℕ) → n < 28 → start n ≡ 4378 + 1461 * n
start_before n few = rw (lt-ltb n 28 few) (omega arith)

start_after : (n : ℕ) → 28 ≤ n → start n ≡ 4377 + 1461 * n
start_after n more = rw (le-ltb n 28 more) (omega arith)

next_before : (n : ℕ) → n < 28 → 4378 + 1461 * suc n ≤ start (suc n) + n / 27
next_before n few = elim (last_or n few) [
  | inl h ↦ let there = start_before (suc n) h in omega arith
  | inr h ↦ let there : start (suc n) ≡ 45285 = ap start h in omega (arith, h)
]
  where
    last_or : (n : ℕ) → n < 28 → (suc n < 28) ⊎ (suc n ≡ 28)
    last_or n few = grind arith

place_by : (c d : ℕ) (a : Bool) → nat_lt d 45285 ≡ a → d ≡ min (max c 7300) 56972
    → IsPlace c (period_of d)
place_by c d true e is =
    let n = (d - 4378) / 1461 in
    let same : period_of d ≡ n = rw e refl in
    let less : d < 45285 = ltb-true d 45285 e in
    let few : n < 28 = omega arith in
    let first = start_before n few in
    let next = next_before n few in
    subst (IsPlace c) (sym same) (record {
      some = omega arith;
      few = omega arith;
      from = λ more. omega arith;
      to = λ more. omega arith;
    })
place_by c d false e is =
    let n = (d + 1 - 4378) / 1461 in
    let same : period_of d ≡ n = rw e refl in
    let late : 45285 ≤ d = grind (arith, nat_tests) in
    let more : 28 ≤ n = omega arith in
    let first = start_after n more in
    let next = start_after (suc n) (omega (arith, more)) in
    subst (IsPlace c) (sym same) (record {
      some = omega arith;
      few = omega arith;
      from = λ more. omega arith;
      to = λ more. omega arith;
    })

by_place : (c nt p m : ℕ) → p ≡ suc (suc m) → IsPlace c p
    → nearest_to c nt 36
    ≡ nearer c (nearer c (day_of_number (p - 1) nt) (day_of_number p nt)) (day_of_number (p + 1) nt)
by_place c nt p m same is =
    let before : suc m ≡ p - 1 = omega arith in
    three_periods c nt m (omega (arith, is.few))
    (λ more. subst (λ q. start q ≤ c) same (is.from (omega arith)))
    (λ less. subst (λ q. c < start (suc q)) same (is.to (omega arith)))
    ∙ ap₂ (λ i j. nearer c (nearer c (day_of_number i nt) (day_of_number j nt))
    (day_of_number (suc j) nt)) before (sym same)
    ∙ ap (λ i. nearer c (nearer c (day_of_number (p - 1) nt) (day_of_number p nt))
    (day_of_number i nt)) (let e : suc p ≡ p + 1 = omega arith in e)

pub nearest_of_three : (c nt d p : ℕ) → d ≡ min (max c 7300) 56972 → p ≡ period_of d
    → nearest_to c nt 36
    ≡ nearer c (nearer c (day_of_number (p - 1) nt) (day_of_number p nt)) (day_of_number (p + 1) nt)
nearest_of_three c nt d p is same =
    let place = subst (IsPlace c) (sym same) (place_by c d _ refl is) in
    by_place c nt p (p - 2) (omega (arith, place.some)) place
