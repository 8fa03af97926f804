-- The searches of the plain assembly give the first due period, and keep its state in step.
use Rattle.std.proofs.Common.{◌≡◌, ℕ, ◌+◌, ◌<◌, ◌≤◌, inl, inr, Bool, true, false, ◌&&◌, nat_lt, if◌then◌else◌, List, [], ◌∷◌, ◌++◌, Option, None, Some, Contains, All, min, refl, sym, ap, subst, ◌∙◌, arith, ltb-true, lt-ltb}
use Rattle.std.proofs.lemmas.Bool.{and_parts, and_from, both_ways}
use Rattle.std.proofs.lemmas.List.Elements.{All-contains, All-push, All-weaker}
use Rattle.nav_eph.specs.declared.part.Part.{Part}
use Rattle.periods.proofs.Surface.{In, In-from_contains, contains_from_In}
use Rattle.periods.proofs.Surface.{Same}
use Rattle.periods.specs.declared.key.PeriodId.{PeriodId}
use Rattle.periods.specs.Values.{IsBest, IsFirstBy}
use Rattle.nav_eph.specs.Values.{IsPartValue}
use Rattle.periods.specs.Periods.{IsBefore, place_numbers}
use Rattle.slot_assembly.specs.Standing.{Standing, IsAfter, IsDue, IsNext, NoneDue, taking, reaching, giving}
use Rattle.periods.specs.Mirrors.{best_among}
use Rattle.periods.specs.PeriodsOf.{quiet, place_at, is_before, verdict_at, closed_with}
use Rattle.nav_laws.specs.Plain.{PlainState, PlainStandsFor, is_after, due, count_after, left_of, plain_left}
use Rattle.periods.proofs.Surface.{earlier_decides, is_below-true, below-is_below}
use Rattle.periods.proofs.Surface.{Passing, best_among-is, IsBest-same}
use Rattle.periods.proofs.Surface.{IsPeriod-same, IsClosed-same}
use Rattle.periods.proofs.Surface.{before_irr}
use Rattle.periods.proofs.Surface.{all_values, end_from_quiet, quiet_from_end, verdict_at-is}
use Rattle.periods.proofs.Surface.{place_at-is, is-place_at}
use Rattle.periods.proofs.Surface.{with_part, later_part}
use Rattle.slot_assembly.proofs.Surface.{after_trans, NoneDue-take, NoneDue-give}

-- the test that a place comes after the last one given
after_true : (last : Option PeriodId) (q : PeriodId) → is_after last q ≡ true → IsAfter last q
after_true None q e = tt
after_true (Some x) q e = is_below-true (place_numbers x) (place_numbers q) e

after-is_after : (last : Option PeriodId) (q : PeriodId) → IsAfter last q → is_after last q ≡ true
after-is_after None q h = refl
after-is_after (Some x) q h = below-is_below (place_numbers x) (place_numbers q) h

-- what passes the test of due places
due_same : (w watermark : ℕ) (parts : List Part) (last : Option PeriodId) (q : PeriodId) → Passing place_at (due parts w watermark last) parts q → IsDue w (Contains parts) watermark last q
due_same w watermark parts last q h =
    let f = place_at-is h.element q h.is in
    let t = and_parts (nat_lt (q.end + w) watermark) (is_after last q && quiet parts w q.key q.end) h.passes in
    let u = and_parts (is_after last q) (quiet parts w q.key q.end) t.1 in
    record {
      period = end_from_quiet w parts q.key q.end h.element (contains_from_In parts h.element h.here) f.0 f.1 u.1;
      low = ltb-true (q.end + w) watermark t.0;
      after = after_true last q u.0;
    }

same_due : (w watermark : ℕ) (parts : List Part) (last : Option PeriodId) (q : PeriodId) → IsDue w (Contains parts) watermark last q → Passing place_at (due parts w watermark last) parts q
same_due w watermark parts last q h =
    let p = h.period.heard in
    record {
      element = p.part;
      here = In-from_contains parts p.part p.here;
      is = is-place_at p.part q p.of_key p.at_stamp;
      passes = and_from (nat_lt (q.end + w) watermark) (is_after last q && quiet parts w q.key q.end) (lt-ltb (q.end + w) watermark h.low)
          (and_from (is_after last q) (quiet parts w q.key q.end) (after-is_after last q h.after) (quiet_from_end w parts q.key q.end h.period));
    }

pub first_due-is : (w watermark : ℕ) (parts : List Part) (last : Option PeriodId) → IsBest IsBefore (IsDue w (Contains parts) watermark last) (best_among place_at (due parts w watermark last) is_before parts None)
first_due-is w watermark parts last = IsBest-same IsBefore (Passing place_at (due parts w watermark last) parts) (IsDue w (Contains parts) watermark last) (best_among place_at (due parts w watermark last) is_before parts None)
    (due_same w watermark parts last) (same_due w watermark parts last) (best_among-is place_at (due parts w watermark last) is_before IsBefore (earlier_decides place_numbers) parts)

-- the same set of parts
IsDue-same : (w watermark : ℕ) (a b : Part → Type 0) (last : Option PeriodId) (q : PeriodId) → Same a b → IsDue w a watermark last q → IsDue w b watermark last q
IsDue-same w watermark a b last q s h = record { period = IsPeriod-same w a b q s h.period; low = h.low; after = h.after }

same_parts : (s : PlainState) (at : Standing) → PlainStandsFor s at → Same (Contains s.parts) (Contains at.parts)
same_parts s at h = record { to = h.keeps_no_more; from = h.keeps }

same_back : (s : PlainState) (at : Standing) → PlainStandsFor s at → Same (Contains at.parts) (Contains s.parts)
same_back s at h = record { to = h.keeps; from = h.keeps_no_more }

-- the first due place, with its verdict, is the next one
pub next_is : (s : PlainState) (at : Standing) (watermark : ℕ) (q : PeriodId) → PlainStandsFor s at → best_among place_at (due s.parts s.window watermark s.last) is_before s.parts None ≡ Some q
    → IsNext s.reference s.window (Contains at.parts) watermark at.last (closed_with q (verdict_at s.reference s.window s.parts q))
next_is s at watermark q h e =
    let b : IsFirstBy IsBefore (IsDue s.window (Contains s.parts) watermark s.last) q = subst (IsBest IsBefore (IsDue s.window (Contains s.parts) watermark s.last)) e (first_due-is s.window watermark s.parts s.last) in
    let here : IsDue s.window (Contains s.parts) watermark at.last q = subst (λ (o : Option PeriodId). IsDue s.window (Contains s.parts) watermark o q) h.at_last b.here in
    record {
      due = IsDue-same s.window watermark (Contains s.parts) (Contains at.parts) at.last q (same_parts s at h) here;
      verdict = IsClosed-same s.reference s.window (Contains s.parts) (Contains at.parts) (closed_with q (verdict_at s.reference s.window s.parts q)) (same_parts s at h)
          (record { period = b.here.period; verdict = verdict_at-is s.reference s.window s.parts q (all_values s.parts h.values) b.here.period });
      least = λ z due l. b.first z (subst (λ (o : Option PeriodId). IsDue s.window (Contains s.parts) watermark o z) (sym h.at_last) (IsDue-same s.window watermark (Contains at.parts) (Contains s.parts) at.last z (same_back s at h) due)) l;
    }

pub none_is : (s : PlainState) (at : Standing) (watermark : ℕ) → PlainStandsFor s at → best_among place_at (due s.parts s.window watermark s.last) is_before s.parts None ≡ None
    → NoneDue s.window (Contains at.parts) watermark at.last
none_is s at watermark h e =
    let none = subst (IsBest IsBefore (IsDue s.window (Contains s.parts) watermark s.last)) e (first_due-is s.window watermark s.parts s.last) in
    λ q due. none q (subst (λ (o : Option PeriodId). IsDue s.window (Contains s.parts) watermark o q) (sym h.at_last) (IsDue-same s.window watermark (Contains at.parts) (Contains s.parts) at.last q (same_back s at h) due))

-- at a watermark at which there was none
pub none_again : (s : PlainState) (at : Standing) (watermark : ℕ) → PlainStandsFor s at → watermark ≤ s.none_at → NoneDue s.window (Contains at.parts) watermark at.last
none_again s at watermark h l = λ q due. h.none_due q (record { period = due.period; low = omega (arith, due.low); after = due.after })

-- where no part is old enough
pub none_old : (s : PlainState) (at : Standing) (watermark : ℕ) → PlainStandsFor s at → watermark ≤ s.least + s.window → NoneDue s.window (Contains at.parts) watermark at.last
none_old s at watermark h l = λ q due.
    let p = due.period.heard in
    omega (arith, due.low, All-contains (λ x. s.least ≤ x.stamp) s.parts p.part h.least (h.keeps p.part p.here), p.at_stamp)

-- the same parts at another watermark, with another period given last, and another watermark at which no period was due
stands_at : (s new : PlainState) (at : Standing) (watermark n : ℕ) (last : Option PeriodId) → PlainStandsFor s at → NoneDue s.window (Contains at.parts) n last → n ≤ watermark → new.parts ≡ s.parts → new.window ≡ s.window → new.watermark ≡ watermark → new.last ≡ last
    → new.least ≡ s.least → new.none_at ≡ n → PlainStandsFor new (record { parts = at.parts; watermark = watermark; last = last })
stands_at s new at watermark n last h none by ep ew em el et en = record {
  keeps = λ p i. subst (λ (ps : List Part). Contains ps p) (sym ep) (h.keeps p i);
  keeps_no_more = λ p i. h.keeps_no_more p (subst (λ (ps : List Part). Contains ps p) ep i);
  at_watermark = em;
  at_last = el;
  values = subst (λ (ps : List Part). All IsPartValue ps) (sym ep) h.values;
  least = subst (λ (ps : List Part). All (λ p. new.least ≤ p.stamp) ps) (sym ep) (subst (λ (m : ℕ). All (λ p. m ≤ p.stamp) s.parts) (sym et) h.least);
  none_due = subst (λ (m : ℕ). NoneDue new.window (Contains at.parts) m last) (sym en) (subst (λ (w : ℕ). NoneDue w (Contains at.parts) n last) (sym ew) none);
  none_by = subst (λ (m : ℕ). m ≤ watermark) (sym en) by;
}

-- after `None`, found by searching all parts, it has the new watermark and remembers it
pub stands_searched : (s new : PlainState) (at : Standing) (watermark : ℕ) → PlainStandsFor s at → NoneDue s.window (Contains at.parts) watermark at.last → new.parts ≡ s.parts → new.window ≡ s.window → new.watermark ≡ watermark → new.last ≡ s.last → new.least ≡ s.least
    → new.none_at ≡ watermark → PlainStandsFor new (reaching watermark at)
stands_searched s new at watermark h none ep ew em el et en = stands_at s new at watermark watermark at.last h none (omega arith) ep ew em (el ∙ h.at_last) et en

-- after a period given
pub stands_given : (s new : PlainState) (at : Standing) (watermark : ℕ) (q : PeriodId) → PlainStandsFor s at → at.watermark ≤ watermark → IsAfter at.last q → new.parts ≡ s.parts → new.window ≡ s.window → new.watermark ≡ watermark → new.last ≡ Some q → new.least ≡ s.least
    → new.none_at ≡ s.none_at → PlainStandsFor new (giving watermark q at)
stands_given s new at watermark q h l after ep ew em el et en =
    stands_at s new at watermark s.none_at (Some q) h (NoneDue-give s.window s.none_at (Contains at.parts) at.last q after h.none_due) (omega (arith, h.none_by)) ep ew em el et en

-- after a part taken
pub stands_taken : (s new : PlainState) (at : Standing) (p : Part) → PlainStandsFor s at → at.watermark ≤ p.stamp → IsPartValue p → new.parts ≡ s.parts ++ p ∷ [] → new.window ≡ s.window → new.watermark ≡ s.watermark → new.last ≡ s.last
    → new.least ≡ min s.least p.stamp → new.none_at ≡ s.none_at → PlainStandsFor new (taking p at)
stands_taken s new at p h l v ep ew em el et en = record {
  keeps = λ q i. subst (λ (ps : List Part). Contains ps q) (sym ep) (elim ((with_part at.parts p).only q i) [
    | inl o ↦ (with_part s.parts p).keeps q (h.keeps q o)
    | inr e ↦ subst (Contains (s.parts ++ p ∷ [])) e (with_part s.parts p).has
  ]);
  keeps_no_more = λ q i. elim ((with_part s.parts p).only q (subst (λ (ps : List Part). Contains ps q) ep i)) [
    | inl o ↦ (with_part at.parts p).keeps q (h.keeps_no_more q o)
    | inr e ↦ subst (Contains (at.parts ++ p ∷ [])) e (with_part at.parts p).has
  ];
  at_watermark = em ∙ h.at_watermark;
  at_last = el ∙ h.at_last;
  values = subst (λ (ps : List Part). All IsPartValue ps) (sym ep) (All-push IsPartValue s.parts p h.values v);
  least = subst (λ (ps : List Part). All (λ x. new.least ≤ x.stamp) ps) (sym ep)
      (All-push (λ x. new.least ≤ x.stamp) s.parts p (All-weaker (λ x. s.least ≤ x.stamp) (λ x. new.least ≤ x.stamp) (λ x k. omega (arith, et)) s.parts h.least) (omega (arith, et)));
  none_due = subst (λ (n : ℕ). NoneDue new.window (Contains (at.parts ++ p ∷ [])) n at.last) (sym en) (subst (λ (w : ℕ). NoneDue w (Contains (at.parts ++ p ∷ [])) s.none_at at.last) (sym ew)
      (NoneDue-take s.window s.none_at at.watermark (Contains at.parts) (Contains (at.parts ++ p ∷ [])) at.last (later_part at.watermark at.parts p l) h.none_by h.none_due));
  none_by = subst (λ (n : ℕ). n ≤ at.watermark) (sym en) h.none_by;
}

-- fewer places are left after one that was given
count_less : (last : Option PeriodId) (q : PeriodId) (o : Option PeriodId) (m n : ℕ) (t u : Bool) → m ≤ n → IsAfter last q → (z : PeriodId) → o ≡ Some z → is_after (Some q) z ≡ t → is_after last z ≡ u
    → (if t then m + 1 else m) ≤ (if u then n + 1 else n)
count_less last q o m n true true l after z e et eu = omega arith
count_less last q o m n true false l after z e et eu = absurd (both_ways (is_after last z) eu (after-is_after last z (after_trans last q z after (after_true (Some q) z et))))
count_less last q o m n false true l after z e et eu = omega arith
count_less last q o m n false false l after z e et eu = l

count_at : (last : Option PeriodId) (q : PeriodId) (o : Option PeriodId) (m n : ℕ) → m ≤ n → IsAfter last q → count_after (Some q) o m ≤ count_after last o n
count_at last q None m n l after = l
count_at last q (Some z) m n l after = count_less last q (Some z) m n (is_after (Some q) z) (is_after last z) l after z refl refl refl

left_less : (last : Option PeriodId) (q : PeriodId) (ps : List Part) → IsAfter last q → left_of (Some q) ps ≤ left_of last ps
left_less last q [] after = omega arith
left_less last q (p ∷ ps) after = count_at last q (place_at p) (left_of (Some q) ps) (left_of last ps) (left_less last q ps after) after

count_own : (last : Option PeriodId) (q : PeriodId) (m n : ℕ) (t u : Bool) → m ≤ n → IsAfter last q → is_after (Some q) q ≡ t → is_after last q ≡ u → (if t then m + 1 else m) < (if u then n + 1 else n)
count_own last q m n true u l after et eu = absurd (before_irr q (after_true (Some q) q et))
count_own last q m n false true l after et eu = omega arith
count_own last q m n false false l after et eu = absurd (both_ways (is_after last q) eu (after-is_after last q after))

count_strict : (last : Option PeriodId) (q : PeriodId) (o : Option PeriodId) (m n : ℕ) → m < n → IsAfter last q → count_after (Some q) o m < count_after last o n
count_strict last q None m n l after = l
count_strict last q (Some z) m n l after = strict (is_after (Some q) z) (is_after last z) refl refl
  where
    strict : (t u : Bool) → is_after (Some q) z ≡ t → is_after last z ≡ u → (if t then m + 1 else m) < (if u then n + 1 else n)
    strict true true et eu = omega arith
    strict true false et eu = absurd (both_ways (is_after last z) eu (after-is_after last z (after_trans last q z after (after_true (Some q) z et))))
    strict false true et eu = omega arith
    strict false false et eu = l

left_at : (last : Option PeriodId) (q : PeriodId) (o : Option PeriodId) (ps : List Part) → o ≡ Some q → IsAfter last q → count_after (Some q) o (left_of (Some q) ps) < count_after last o (left_of last ps)
left_at last q o ps e after = subst (λ (x : Option PeriodId). count_after (Some q) x (left_of (Some q) ps) < count_after last x (left_of last ps)) (sym e)
    (count_own last q (left_of (Some q) ps) (left_of last ps) (is_after (Some q) q) (is_after last q) (left_less last q ps after) after refl refl)

left_strict : (last : Option PeriodId) (q : PeriodId) (ps : List Part) (p : Part) → In ps p → place_at p ≡ Some q → IsAfter last q → left_of (Some q) ps < left_of last ps
left_strict last q [] p i e after = absurd i
left_strict last q (x ∷ xs) p (inl same) e after = left_at last q (place_at x) xs (ap place_at same ∙ e) after
left_strict last q (x ∷ xs) p (inr i) e after = count_strict last q (place_at x) (left_of (Some q) xs) (left_of last xs) (left_strict last q xs p i e after) after

pub fewer_left : (s new : PlainState) (watermark : ℕ) (q : PeriodId) → best_among place_at (due s.parts s.window watermark s.last) is_before s.parts None ≡ Some q → new.parts ≡ s.parts → new.last ≡ Some q → plain_left new < plain_left s
fewer_left s new watermark q e ep el =
    let b : IsFirstBy IsBefore (IsDue s.window (Contains s.parts) watermark s.last) q = subst (IsBest IsBefore (IsDue s.window (Contains s.parts) watermark s.last)) e (first_due-is s.window watermark s.parts s.last) in
    let d = same_due s.window watermark s.parts s.last q b.here in
    subst (λ (o : Option PeriodId). left_of o new.parts < left_of s.last s.parts) (sym el) (subst (λ (ps : List Part). left_of (Some q) ps < left_of s.last s.parts) (sym ep)
    (left_strict s.last q s.parts d.element d.here d.is b.here.after))

pub given_after : (s : PlainState) (at : Standing) (watermark : ℕ) (q : PeriodId) → PlainStandsFor s at → best_among place_at (due s.parts s.window watermark s.last) is_before s.parts None ≡ Some q → IsAfter at.last q
given_after s at watermark q h e = (next_is s at watermark q h e).due.after
