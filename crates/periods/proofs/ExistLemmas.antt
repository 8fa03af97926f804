-- The function `periods_of` gives the list of the periods, and `closed_of` that of the closed ones.
use Rattle.std.proofs.Common.{◌≡◌, ℕ, ◌+◌, ◌<◌, ◌≤◌, inl, inr, Bool, true, false, nat_lt, if◌then◌else◌, List, [], ◌∷◌, ◌++◌, Option, None, Some, Contains, All, refl, sym, ap, subst, ◌∙◌, arith, lt-ltb}
use Rattle.std.specs.List.{AllByRecursion}
use Rattle.std.proofs.lemmas.Bool.{both_ways}
use Rattle.std.proofs.lemmas.List.Elements.{All-contains, Contains-append_left, Contains-append_cases, Contains-push_cases}
use Rattle.nav_eph.specs.declared.part.Part.{Part}
use Rattle.periods.proofs.EndFacts.{In, In-from_contains, contains_from_In}
use Rattle.periods.proofs.EndFacts.{Same}
use Rattle.periods.specs.declared.key.PeriodKey.{PeriodKey}
use Rattle.periods.specs.declared.key.PeriodId.{PeriodId}
use Rattle.periods.specs.declared.closed.Closed.{Closed}
use Rattle.nav_eph.specs.Values.{IsPartValue}
use Rattle.periods.specs.Parts.{key_of}
use Rattle.periods.specs.Periods.{IsPeriod, IsBefore, place_numbers}
use Rattle.periods.specs.Verdicts.{IsClosed, closed_place}
use Rattle.periods.specs.PeriodLists.{IsAscending, ArePeriods, AreClosed, IsPeriodPrefix}
use Rattle.periods.specs.PeriodsOf.{quiet, place_in, place_at, verdict_at, closed_with, is_before, insert, insert_at, periods_ending, periods_of, closed_of}
use Rattle.periods.proofs.Orders.{is_below-true, below-is_below}
use Rattle.periods.proofs.Folds.{some_is, none_some}
use Rattle.periods.proofs.KeyLemmas.{IsKeyValue, key_value, same_place}
use Rattle.periods.proofs.PeriodLemmas.{AreLater, IsPeriod-was}
use Rattle.periods.proofs.VerdictLemmas.{IsClosed-keeps}
use Rattle.periods.proofs.ListLemmas.{before_trans, All-in, all_of, Precedes, ArePeriods-one, AreClosed-one, ArePeriods-same, closed_at-are, closed_at-prefix, closed_at-rise, filter_all}
use Rattle.periods.proofs.SearchLemmas.{end_from_quiet, quiet_from_end}
use Rattle.periods.proofs.LastLemmas.{verdict_at-is}

-- inserting a period
insert_all-at : (P : Closed → Type 0) (c d : Closed) (ds : List Closed) (t u : Bool) → P c → P d → AllByRecursion P ds → AllByRecursion P (insert c ds)
    → AllByRecursion P (if t then c ∷ d ∷ ds else (if u then d ∷ insert c ds else d ∷ ds))
insert_all-at P c d ds true u hc hd h ih = (hc, (hd, h))
insert_all-at P c d ds false true hc hd h ih = (hd, ih)
insert_all-at P c d ds false false hc hd h ih = (hd, h)

insert_all : (P : Closed → Type 0) (c : Closed) (ds : List Closed) → P c → AllByRecursion P ds → AllByRecursion P (insert c ds)
insert_all P c [] hc h = (hc, tt)
insert_all P c (d ∷ ds) hc h = insert_all-at P c d ds (is_before (closed_place c) (closed_place d)) (is_before (closed_place d) (closed_place c)) hc h.0 h.1 (insert_all P c ds hc h.1)

is_before-true : (a b : PeriodId) → is_before a b ≡ true → IsBefore a b
is_before-true a b e = is_below-true (place_numbers a) (place_numbers b) e

insert_ascending-at : (c d : Closed) (ds : List Closed) (t u : Bool) → is_before (closed_place c) (closed_place d) ≡ t → is_before (closed_place d) (closed_place c) ≡ u
    → IsAscending (d ∷ ds) → IsAscending (insert c ds) → IsAscending (if t then c ∷ d ∷ ds else (if u then d ∷ insert c ds else d ∷ ds))
insert_ascending-at c d ds true u et eu h ih =
    let l = is_before-true (closed_place c) (closed_place d) et in
    ((l, all_of (Precedes c) ds (λ x i. before_trans (closed_place c) (closed_place d) (closed_place x) l (All-in (Precedes d) ds x h.0 i))), h)
insert_ascending-at c d ds false true et eu h ih = (insert_all (Precedes d) c ds (is_before-true (closed_place d) (closed_place c) eu) h.0, ih)
insert_ascending-at c d ds false false et eu h ih = h

insert_ascending : (c : Closed) (ds : List Closed) → IsAscending ds → IsAscending (insert c ds)
insert_ascending c [] h = (tt, tt)
insert_ascending c (d ∷ ds) h = insert_ascending-at c d ds (is_before (closed_place c) (closed_place d)) (is_before (closed_place d) (closed_place c)) refl refl h (insert_ascending c ds h.1)

insert_keeps-at : (c d x : Closed) (ds : List Closed) (t u : Bool) → In (d ∷ ds) x → (In ds x → In (insert c ds) x) → In (if t then c ∷ d ∷ ds else (if u then d ∷ insert c ds else d ∷ ds)) x
insert_keeps-at c d x ds true u i ih = inr i
insert_keeps-at c d x ds false true (inl e) ih = inl e
insert_keeps-at c d x ds false true (inr i) ih = inr (ih i)
insert_keeps-at c d x ds false false i ih = i

insert_keeps : (c x : Closed) (ds : List Closed) → In ds x → In (insert c ds) x
insert_keeps c x [] i = absurd i
insert_keeps c x (d ∷ ds) i = insert_keeps-at c d x ds (is_before (closed_place c) (closed_place d)) (is_before (closed_place d) (closed_place c)) i (λ j. insert_keeps c x ds j)

-- the list has a period at the place
abbrev pub StandsIn : List Closed → PeriodId → Type 0
StandsIn xs q = (c : Closed) × In xs c × (closed_place c ≡ q)

not_before : (a b : PeriodId) → is_before a b ≡ false → IsBefore a b → ⊥
not_before a b e h = both_ways (is_before a b) e (below-is_below (place_numbers a) (place_numbers b) h)

insert_stands-at : (c d : Closed) (ds : List Closed) (t u : Bool) → is_before (closed_place c) (closed_place d) ≡ t → is_before (closed_place d) (closed_place c) ≡ u
    → IsKeyValue c.key → IsKeyValue d.key → StandsIn (insert c ds) (closed_place c) → StandsIn (if t then c ∷ d ∷ ds else (if u then d ∷ insert c ds else d ∷ ds)) (closed_place c)
insert_stands-at c d ds true u et eu vc vd ih = (c, inl refl, refl)
insert_stands-at c d ds false true et eu vc vd ih = (ih.0, inr ih.1, ih.2)
insert_stands-at c d ds false false et eu vc vd ih =
    (d, inl refl, same_place (closed_place d) (closed_place c) vd vc (not_before (closed_place d) (closed_place c) eu) (not_before (closed_place c) (closed_place d) et))

insert_stands : (c : Closed) (ds : List Closed) → IsKeyValue c.key → AllByRecursion (λ d. IsKeyValue d.key) ds → StandsIn (insert c ds) (closed_place c)
insert_stands c [] vc h = (c, inl refl, refl)
insert_stands c (d ∷ ds) vc h = insert_stands-at c d ds (is_before (closed_place c) (closed_place d)) (is_before (closed_place d) (closed_place c)) refl refl vc h.0 (insert_stands c ds vc h.1)

-- the place of a part
place_in-is : (stamp : ℕ) (o : Option PeriodKey) (q : PeriodId) → place_in stamp o ≡ Some q → (o ≡ Some q.key) × (stamp ≡ q.end)
place_in-is stamp None q e = absurd (none_some q e)
place_in-is stamp (Some key) q e = let f = some_is (record { end = stamp; key = key }) q e in (ap (λ (x : PeriodId). Some x.key) f, ap (λ (x : PeriodId). x.end) f)

pub place_at-is : (p : Part) (q : PeriodId) → place_at p ≡ Some q → (key_of p ≡ Some q.key) × (p.stamp ≡ q.end)
place_at-is p q e = place_in-is p.stamp (key_of p) q e

pub is-place_at : (p : Part) (q : PeriodId) → key_of p ≡ Some q.key → p.stamp ≡ q.end → place_at p ≡ Some q
is-place_at p q k s = ap (place_in p.stamp) k ∙ ap (λ (x : ℕ). Some (place_with x q.key)) s
  where
    place_with : ℕ → PeriodKey → PeriodId
    place_with x key = record { end = x; key = key }

-- each element of the list is a period of the parts
all_if : (Is : Closed → Type 0) (r w : ℕ) (parts : List Part) (q : PeriodId) (p : Part) (cs : List Closed) (t : Bool)
    → ((z : PeriodId) → IsPeriod w (Contains parts) z → Is (closed_with z (verdict_at r w parts z))) → quiet parts w q.key q.end ≡ t → In parts p → place_at p ≡ Some q
    → AllByRecursion Is cs → AllByRecursion Is (if t then insert (closed_with q (verdict_at r w parts q)) cs else cs)
all_if Is r w parts q p cs true is et i e h =
    let f = place_at-is p q e in
    insert_all Is (closed_with q (verdict_at r w parts q)) cs (is q (end_from_quiet w parts q.key q.end p (contains_from_In parts p i) f.0 f.1 et)) h
all_if Is r w parts q p cs false is et i e h = h

all_at : (Is : Closed → Type 0) (r w : ℕ) (parts : List Part) (p : Part) (o : Option PeriodId) (cs : List Closed)
    → ((z : PeriodId) → IsPeriod w (Contains parts) z → Is (closed_with z (verdict_at r w parts z))) → place_at p ≡ o → In parts p
    → AllByRecursion Is cs → AllByRecursion Is (insert_at r w parts o cs)
all_at Is r w parts p None cs is e i h = h
all_at Is r w parts p (Some q) cs is e i h = all_if Is r w parts q p cs (quiet parts w q.key q.end) is refl i e h

ending_all : (Is : Closed → Type 0) (r w : ℕ) (parts ps : List Part) → ((z : PeriodId) → IsPeriod w (Contains parts) z → Is (closed_with z (verdict_at r w parts z)))
    → ((p : Part) → In ps p → In parts p) → AllByRecursion Is (periods_ending r w parts ps)
ending_all Is r w parts [] is within = tt
ending_all Is r w parts (p ∷ ps) is within =
    all_at Is r w parts p (place_at p) (periods_ending r w parts ps) is refl (within p (inl refl)) (ending_all Is r w parts ps is (λ x i. within x (inr i)))

-- the place of a period
abbrev AtPeriod : ℕ → (Part → Type 0) → Closed → Type 0
AtPeriod w parts c = IsPeriod w parts (closed_place c)

ending_period : (r w : ℕ) (parts ps : List Part) → ((p : Part) → In ps p → In parts p) → AllByRecursion (AtPeriod w (Contains parts)) (periods_ending r w parts ps)
ending_period r w parts ps within = ending_all (AtPeriod w (Contains parts)) r w parts ps (λ z h. h) within

ending_each : (r w : ℕ) (parts ps : List Part) → ((p : Part) → Contains parts p → IsPartValue p) → ((p : Part) → In ps p → In parts p)
    → AllByRecursion (IsClosed r w (Contains parts)) (periods_ending r w parts ps)
ending_each r w parts ps values within =
    ending_all (IsClosed r w (Contains parts)) r w parts ps (λ z h. record { period = h; verdict = verdict_at-is r w parts z values h }) within

-- the list is in order
ascending_if : (c : Closed) (cs : List Closed) (t : Bool) → IsAscending cs → IsAscending (if t then insert c cs else cs)
ascending_if c cs true h = insert_ascending c cs h
ascending_if c cs false h = h

ascending_at : (r w : ℕ) (parts : List Part) (o : Option PeriodId) (cs : List Closed) → IsAscending cs → IsAscending (insert_at r w parts o cs)
ascending_at r w parts None cs h = h
ascending_at r w parts (Some q) cs h = ascending_if (closed_with q (verdict_at r w parts q)) cs (quiet parts w q.key q.end) h

ending_ascending : (r w : ℕ) (parts ps : List Part) → IsAscending (periods_ending r w parts ps)
ending_ascending r w parts [] = tt
ending_ascending r w parts (p ∷ ps) = ascending_at r w parts (place_at p) (periods_ending r w parts ps) (ending_ascending r w parts ps)

-- each period is in the list
keeps_if : (c x : Closed) (cs : List Closed) (t : Bool) → In cs x → In (if t then insert c cs else cs) x
keeps_if c x cs true i = insert_keeps c x cs i
keeps_if c x cs false i = i

keeps_at : (r w : ℕ) (parts : List Part) (o : Option PeriodId) (x : Closed) (cs : List Closed) → In cs x → In (insert_at r w parts o cs) x
keeps_at r w parts None x cs i = i
keeps_at r w parts (Some q) x cs i = keeps_if (closed_with q (verdict_at r w parts q)) x cs (quiet parts w q.key q.end) i

stands_if : (c : Closed) (cs : List Closed) (t : Bool) → t ≡ true → IsKeyValue c.key → AllByRecursion (λ d. IsKeyValue d.key) cs → StandsIn (if t then insert c cs else cs) (closed_place c)
stands_if c cs true e v h = insert_stands c cs v h
stands_if c cs false e v h = absurd (both_ways false refl e)

stands_at : (r w : ℕ) (parts : List Part) (q : PeriodId) (o : Option PeriodId) (cs : List Closed) → o ≡ Some q → IsKeyValue q.key → AllByRecursion (λ d. IsKeyValue d.key) cs → quiet parts w q.key q.end ≡ true
    → StandsIn (insert_at r w parts o cs) q
stands_at r w parts q o cs e v h t =
    subst (λ (x : Option PeriodId). StandsIn (insert_at r w parts x cs) q) (sym e) (stands_if (closed_with q (verdict_at r w parts q)) cs (quiet parts w q.key q.end) t v h)

-- the key of a period is one of a part
pub period_key : (w : ℕ) (parts : Part → Type 0) (q : PeriodId) → ((p : Part) → parts p → IsPartValue p) → IsPeriod w parts q → IsKeyValue q.key
period_key w parts q values h = key_value h.heard.part q.key (values h.heard.part h.heard.here) h.heard.of_key

ending_every : (r w : ℕ) (parts ps : List Part) (q : PeriodId) (p : Part) → ((x : Part) → Contains parts x → IsPartValue x) → ((x : Part) → In ps x → In parts x) → IsPeriod w (Contains parts) q → In ps p
    → key_of p ≡ Some q.key → p.stamp ≡ q.end → StandsIn (periods_ending r w parts ps) q
ending_every r w parts [] q p values within h i k s = absurd i
ending_every r w parts (x ∷ xs) q p values within h (inl e) k s =
    let cs = periods_ending r w parts xs in
    let v : AllByRecursion (λ d. IsKeyValue d.key) cs =
    all_of (λ d. IsKeyValue d.key) cs (λ d j. period_key w (Contains parts) (closed_place d) values (All-in (AtPeriod w (Contains parts)) cs d (ending_period r w parts xs (λ y j. within y (inr j))) j)) in
    stands_at r w parts q (place_at x) cs (ap place_at e ∙ is-place_at p q k s) (period_key w (Contains parts) q values h) v (quiet_from_end w parts q.key q.end h)
ending_every r w parts (x ∷ xs) q p values within h (inr i) k s =
    let d = ending_every r w parts xs q p values (λ y j. within y (inr j)) h i k s in
    (d.0, keeps_at r w parts (place_at x) d.0 (periods_ending r w parts xs) d.1, d.2)

-- the law: the function gives the list of the periods
pub periods_of-are : (r w : ℕ) (parts : List Part) → ((p : Part) → Contains parts p → IsPartValue p) → ArePeriods r w (Contains parts) (periods_of r w parts)
unfolding periods_of
periods_of-are r w parts values = record {
  ascending = ending_ascending r w parts parts;
  each = λ c i. All-in (IsClosed r w (Contains parts)) (periods_ending r w parts parts) c (ending_each r w parts parts values (λ p j. j)) (In-from_contains (periods_ending r w parts parts) c i);
  every = λ q h.
      let p = h.heard in
      let d = ending_every r w parts parts q p.part values (λ x j. j) h (In-from_contains parts p.part p.here) p.of_key p.at_stamp in
      (d.0, contains_from_In (periods_ending r w parts parts) d.0 d.1, d.2);
}

pub all_values : (parts : List Part) → All IsPartValue parts → (p : Part) → Contains parts p → IsPartValue p
all_values parts all p i = All-contains IsPartValue parts p all i

pub closed_of-are : (r w watermark : ℕ) (parts : List Part) → ((p : Part) → Contains parts p → IsPartValue p) → AreClosed r w (Contains parts) watermark (closed_of r w watermark parts)
unfolding closed_of
closed_of-are r w watermark parts values = closed_at-are r w (Contains parts) watermark (periods_of r w parts) (periods_of-are r w parts values)

pub periods_of-only : (r w : ℕ) (parts : List Part) (xs : List Closed) → ((p : Part) → Contains parts p → IsPartValue p) → ArePeriods r w (Contains parts) xs → xs ≡ periods_of r w parts
periods_of-only r w parts xs values h = ArePeriods-one r w (Contains parts) xs (periods_of r w parts) values h (periods_of-are r w parts values)

pub closed_of-only : (r w watermark : ℕ) (parts : List Part) (xs : List Closed) → ((p : Part) → Contains parts p → IsPartValue p) → AreClosed r w (Contains parts) watermark xs → xs ≡ closed_of r w watermark parts
closed_of-only r w watermark parts xs values h = AreClosed-one r w (Contains parts) watermark xs (closed_of r w watermark parts) values h (closed_of-are r w watermark parts values)

-- order and repetition do not matter
pub order_nothing : (r w : ℕ) (some other : List Part) → ((p : Part) → Contains some p → IsPartValue p) → Same (Contains some) (Contains other) → periods_of r w some ≡ periods_of r w other
order_nothing r w some other values s = sym (ArePeriods-one r w (Contains some) (periods_of r w other) (periods_of r w some) values
    (ArePeriods-same r w (Contains other) (Contains some) (periods_of r w other) (record { to = s.from; from = s.to }) (periods_of-are r w other (λ p i. values p (s.from p i))))
    (periods_of-are r w some values))

-- parts of a list, and later ones
pub later_parts : (watermark : ℕ) (parts later : List Part) → All (λ p. watermark ≤ p.stamp) later → AreLater watermark (Contains parts) (Contains (parts ++ later))
later_parts watermark parts later all = record {
  keeps = λ p i. Contains-append_left parts later p i;
  later = λ p i. elim (Contains-append_cases parts later p i) [
    | inl a ↦ inl a
    | inr b ↦ inr (All-contains (λ x. watermark ≤ x.stamp) later p all b)
  ];
}

-- and one later part
pub later_part : (watermark : ℕ) (parts : List Part) (p : Part) → watermark ≤ p.stamp → AreLater watermark (Contains parts) (Contains (parts ++ p ∷ []))
later_part watermark parts p l = record {
  keeps = λ q i. Contains-append_left parts (p ∷ []) q i;
  later = λ q i. elim (Contains-push_cases parts p q i) [ inl o ↦ inl o | inr e ↦ inr (subst (λ (x : Part). watermark ≤ x.stamp) e l) ];
}

pub closed_of-later : (r w watermark : ℕ) (parts later : List Part) → ((p : Part) → Contains (parts ++ later) p → IsPartValue p) → AreLater watermark (Contains parts) (Contains (parts ++ later))
    → closed_of r w watermark (parts ++ later) ≡ closed_of r w watermark parts
closed_of-later r w watermark parts later values l =
    let h = closed_of-are r w watermark parts (λ p i. values p (l.keeps p i)) in
    sym (closed_of-only r w watermark (parts ++ later) (closed_of r w watermark parts) values (record {
      ascending = h.ascending;
      each = λ c i. IsClosed-keeps r w watermark (Contains parts) (Contains (parts ++ later)) c l (h.low c i) (h.each c i);
      low = h.low;
      every = λ q hq low. h.every q (IsPeriod-was w watermark (Contains parts) (Contains (parts ++ later)) q l (omega arith) hq) low;
    }))

pub closed_of-rise : (r w watermark higher : ℕ) (parts : List Part) → watermark ≤ higher → IsPeriodPrefix (closed_of r w watermark parts) (closed_of r w higher parts)
unfolding closed_of periods_of
closed_of-rise r w watermark higher parts l = closed_at-rise w watermark higher (periods_ending r w parts parts) l (ending_ascending r w parts parts)

pub closed_of-prefix : (r w watermark : ℕ) (parts : List Part) → IsPeriodPrefix (closed_of r w watermark parts) (periods_of r w parts)
unfolding closed_of periods_of
closed_of-prefix r w watermark parts = closed_at-prefix w watermark (periods_ending r w parts parts) (ending_ascending r w parts parts)

pub closed_of-all : (r w watermark : ℕ) (parts : List Part) → ((p : Part) → Contains parts p → p.stamp + w < watermark) → closed_of r w watermark parts ≡ periods_of r w parts
unfolding closed_of periods_of
closed_of-all r w watermark parts low = filter_all (λ c. nat_lt (c.end + w) watermark) (periods_ending r w parts parts) (λ c i.
    let k = All-in (AtPeriod w (Contains parts)) (periods_ending r w parts parts) c (ending_period r w parts parts (λ p j. j)) i in
    let p = k.heard in
    lt-ltb (c.end + w) watermark (subst (λ (s : ℕ). s + w < watermark) p.at_stamp (low p.part p.here)))
