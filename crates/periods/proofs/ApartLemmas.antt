-- Parts that lie more than a window before others change none of their periods, and vice versa.
use Rattle.std.proofs.Common.{ℕ, ◌+◌, ◌<◌, ◌≤◌, ◌⊎◌, inl, inr, List, ◌++◌, Contains, All, refl, subst, arith}
use Rattle.std.proofs.lemmas.List.Elements.{All-contains, Contains-append_left, Contains-append_right, Contains-append_cases}
use Rattle.periods.specs.Ends.{IsEndOf}
use Rattle.periods.proofs.EndFacts.{Same, same_sym, covered, AreApart, left_end, right_end, end_cases, left_end_of, end_of_left, right_end_of, end_of_right, none_across}
use Rattle.nav_eph.specs.declared.items.NavItem.{NavItem}
use Rattle.nav_eph.specs.declared.part.Part.{Part}
use Rattle.periods.specs.declared.key.PeriodKey.{PeriodKey}
use Rattle.periods.specs.declared.key.PeriodId.{PeriodId}
use Rattle.periods.specs.declared.closed.Finding.TheVariants.{Complete}
use Rattle.periods.specs.PeriodsOf.{end_place}
use Rattle.periods.specs.Periods.{IsReceivedAt, IsPeriod, IsMember}
use Rattle.periods.specs.Verdicts.{IsComplete, IsFound, IsUpToEnd, IsBehindEnd}
use Rattle.periods.proofs.PeriodLemmas.{heard_to, up_to, behind_to}
use Rattle.periods.proofs.ValueFindings.{IsFoundIn-same}
use Rattle.periods.proofs.TouchLemmas.{known_parts}

-- The parts of the first set lie more than a window below the watermark, and of each key each has an end there; those of the
-- second lie from the watermark on; there are no others.
pub record Splits (w watermark : ℕ) (first second all : Part → Type 0) : Type 0 where
  pub low : (p : Part) → first p → p.stamp + w < watermark
  pub high : (p : Part) → second p → watermark ≤ p.stamp
  pub left : (p : Part) → first p → all p
  pub right : (p : Part) → second p → all p
  pub cases : (p : Part) → all p → first p ⊎ second p
  pub ends : (key : PeriodKey) (s : ℕ) → IsReceivedAt first key s → (e : ℕ) × IsEndOf w (IsReceivedAt first key) e s

-- the same set, split
pub splits_same : (w watermark : ℕ) (first second a b : Part → Type 0) → Same a b → Splits w watermark first second a → Splits w watermark first second b
splits_same w watermark first second a b s h = record {
  low = h.low;
  high = h.high;
  left = λ p i. s.to p (h.left p i);
  right = λ p i. s.to p (h.right p i);
  cases = λ p i. h.cases p (s.from p i);
  ends = h.ends;
}

-- a list of parts, and later ones
pub splits_lists : (w watermark : ℕ) (some more : List Part) → All (λ p. p.stamp + w < watermark) some → All (λ p. watermark ≤ p.stamp) more
    → Splits w watermark (Contains some) (Contains more) (Contains (some ++ more))
splits_lists w watermark some more low high = record {
  low = λ p i. All-contains (λ x. x.stamp + w < watermark) some p low i;
  high = λ p i. All-contains (λ x. watermark ≤ x.stamp) more p high i;
  left = λ p i. Contains-append_left some more p i;
  right = λ p i. Contains-append_right some more p i;
  cases = λ p i. Contains-append_cases some more p i;
  ends = λ key s h. covered w (IsReceivedAt (Contains some) key) (known_parts w some key) s h;
}

stamps_apart : (w watermark : ℕ) (first second all : Part → Type 0) (key : PeriodKey) → Splits w watermark first second all
    → AreApart w watermark (IsReceivedAt first key) (IsReceivedAt second key) (IsReceivedAt all key)
stamps_apart w watermark first second all key h = record {
  low = λ s x. subst (λ (z : ℕ). z + w < watermark) x.at_stamp (h.low x.part x.here);
  high = λ s x. subst (λ (z : ℕ). watermark ≤ z) x.at_stamp (h.high x.part x.here);
  left = λ s x. heard_to first all key s h.left x;
  right = λ s x. heard_to second all key s h.right x;
  cases = λ s x. elim (h.cases x.part x.here) [
    | inl a ↦ inl (record { part = x.part; here = a; of_key = x.of_key; at_stamp = x.at_stamp })
    | inr b ↦ inr (record { part = x.part; here = b; of_key = x.of_key; at_stamp = x.at_stamp })
  ];
  ends = h.ends key;
}

-- bounds of the ends of the periods of either set
pub left_low : (w watermark : ℕ) (first second all : Part → Type 0) (q : PeriodId) → Splits w watermark first second all → IsPeriod w first q → q.end + w < watermark
left_low w watermark first second all q h p = (stamps_apart w watermark first second all q.key h).low q.end p.heard

pub right_high : (w watermark : ℕ) (first second all : Part → Type 0) (q : PeriodId) → Splits w watermark first second all → IsPeriod w second q → watermark ≤ q.end
right_high w watermark first second all q h p = (stamps_apart w watermark first second all q.key h).high q.end p.heard

-- the periods of all are those of the first set and those of the second
pub left_period : (w watermark : ℕ) (first second all : Part → Type 0) (q : PeriodId) → Splits w watermark first second all → IsPeriod w first q → IsPeriod w all q
left_period w watermark first second all q h p =
    left_end w watermark (IsReceivedAt first q.key) (IsReceivedAt second q.key) (IsReceivedAt all q.key) q.end (stamps_apart w watermark first second all q.key h) p

pub right_period : (w watermark : ℕ) (first second all : Part → Type 0) (q : PeriodId) → Splits w watermark first second all → IsPeriod w second q → IsPeriod w all q
right_period w watermark first second all q h p =
    right_end w watermark (IsReceivedAt first q.key) (IsReceivedAt second q.key) (IsReceivedAt all q.key) q.end (stamps_apart w watermark first second all q.key h) p

pub period_cases : (w watermark : ℕ) (first second all : Part → Type 0) (q : PeriodId) → Splits w watermark first second all → IsPeriod w all q → IsPeriod w first q ⊎ IsPeriod w second q
period_cases w watermark first second all q h p =
    end_cases w watermark (IsReceivedAt first q.key) (IsReceivedAt second q.key) (IsReceivedAt all q.key) q.end (stamps_apart w watermark first second all q.key h) p

-- with the same members
pub left_members : (w watermark : ℕ) (first second all : Part → Type 0) (q : PeriodId) → Splits w watermark first second all → IsPeriod w first q
    → Same (IsMember w first q) (IsMember w all q)
left_members w watermark first second all q h hq =
    let a = stamps_apart w watermark first second all q.key h in
    let low = left_low w watermark first second all q h hq in
    record {
      to = λ p m. record {
        here = h.left p m.here;
        of_key = m.of_key;
        ends = left_end_of w watermark (IsReceivedAt first q.key) (IsReceivedAt second q.key) (IsReceivedAt all q.key) q.end p.stamp a m.ends;
      };
      from = λ p m. record {
        here = elim (h.cases p m.here) [ inl x ↦ x | inr x ↦ absurd (omega (arith, h.high p x, m.ends.after)) ];
        of_key = m.of_key;
        ends = end_of_left w watermark (IsReceivedAt first q.key) (IsReceivedAt second q.key) (IsReceivedAt all q.key) q.end p.stamp a hq m.ends;
      };
    }

pub right_members : (w watermark : ℕ) (first second all : Part → Type 0) (q : PeriodId) → Splits w watermark first second all → IsPeriod w second q
    → Same (IsMember w second q) (IsMember w all q)
right_members w watermark first second all q h hq =
    let a = stamps_apart w watermark first second all q.key h in
    record {
      to = λ p m. record {
        here = h.right p m.here;
        of_key = m.of_key;
        ends = right_end_of w watermark (IsReceivedAt first q.key) (IsReceivedAt second q.key) (IsReceivedAt all q.key) q.end p.stamp a (h.high p m.here) m.ends;
      };
      from = λ p m. record {
        here = elim (h.cases p m.here) [
          | inl x ↦ absurd (none_across w watermark (IsReceivedAt first q.key) (IsReceivedAt second q.key) (IsReceivedAt all q.key) q.end p.stamp a
              (record { part = p; here = x; of_key = m.of_key; at_stamp = refl }) hq m.ends)
          | inr x ↦ x
        ];
        of_key = m.of_key;
        ends = end_of_right w watermark (IsReceivedAt first q.key) (IsReceivedAt second q.key) (IsReceivedAt all q.key) q.end p.stamp a hq m.ends;
      };
    }

-- and the same health near their ends
left_before : (w watermark : ℕ) (first second all : Part → Type 0) (key : PeriodKey) (e : ℕ) → Splits w watermark first second all → e + w < watermark
    → Same (IsUpToEnd w first key e) (IsUpToEnd w all key e)
left_before w watermark first second all key e h l = record {
  to = λ x v. up_to w first all key e x (λ p k n. h.left p) v;
  from = λ x v. up_to w all first key e x (λ p k n i. elim (h.cases p i) [ inl a ↦ a | inr b ↦ absurd (omega (arith, h.high p b, k)) ]) v;
}

left_behind : (w watermark : ℕ) (first second all : Part → Type 0) (key : PeriodKey) (e : ℕ) → Splits w watermark first second all → e + w < watermark
    → Same (IsBehindEnd w first key e) (IsBehindEnd w all key e)
left_behind w watermark first second all key e h l = record {
  to = λ x v. behind_to w first all key e x (λ p k n. h.left p) v;
  from = λ x v. behind_to w all first key e x (λ p k n i. elim (h.cases p i) [ inl a ↦ a | inr b ↦ absurd (omega (arith, h.high p b, n)) ]) v;
}

right_before : (w watermark : ℕ) (first second all : Part → Type 0) (key : PeriodKey) (e : ℕ) → Splits w watermark first second all → watermark ≤ e
    → Same (IsUpToEnd w second key e) (IsUpToEnd w all key e)
right_before w watermark first second all key e h l = record {
  to = λ x v. up_to w second all key e x (λ p k n. h.right p) v;
  from = λ x v. up_to w all second key e x (λ p k n i. elim (h.cases p i) [ inl a ↦ absurd (omega (arith, h.low p a, n)) | inr b ↦ b ]) v;
}

right_behind : (w watermark : ℕ) (first second all : Part → Type 0) (key : PeriodKey) (e : ℕ) → Splits w watermark first second all → watermark ≤ e
    → Same (IsBehindEnd w second key e) (IsBehindEnd w all key e)
right_behind w watermark first second all key e h l = record {
  to = λ x v. behind_to w second all key e x (λ p k n. h.right p) v;
  from = λ x v. behind_to w all second key e x (λ p k n i. elim (h.cases p i) [ inl a ↦ absurd (omega (arith, h.low p a, k)) | inr b ↦ b ]) v;
}

-- and so the same findings
pub found_left : (r w watermark : ℕ) (first second all : Part → Type 0) (q : PeriodId) → Splits w watermark first second all → IsPeriod w first q
    → Same (IsFound r w first q) (IsFound r w all q)
found_left r w watermark first second all q h hq =
    let low = left_low w watermark first second all q h hq in
    let m = left_members w watermark first second all q h hq in
    let b = left_before w watermark first second all q.key q.end h low in
    let a = left_behind w watermark first second all q.key q.end h low in
    record {
      to = λ f x. IsFoundIn-same r q.key (IsMember w first q) (IsMember w all q) (IsUpToEnd w first q.key q.end) (IsBehindEnd w first q.key q.end)
          (IsUpToEnd w all q.key q.end) (IsBehindEnd w all q.key q.end) f m b a x;
      from = λ f x. IsFoundIn-same r q.key (IsMember w all q) (IsMember w first q) (IsUpToEnd w all q.key q.end) (IsBehindEnd w all q.key q.end)
          (IsUpToEnd w first q.key q.end) (IsBehindEnd w first q.key q.end) f (same_sym (IsMember w first q) (IsMember w all q) m)
          (same_sym (IsUpToEnd w first q.key q.end) (IsUpToEnd w all q.key q.end) b) (same_sym (IsBehindEnd w first q.key q.end) (IsBehindEnd w all q.key q.end) a) x;
    }

pub found_right : (r w watermark : ℕ) (first second all : Part → Type 0) (q : PeriodId) → Splits w watermark first second all → IsPeriod w second q
    → Same (IsFound r w second q) (IsFound r w all q)
found_right r w watermark first second all q h hq =
    let high = right_high w watermark first second all q h hq in
    let m = right_members w watermark first second all q h hq in
    let b = right_before w watermark first second all q.key q.end h high in
    let a = right_behind w watermark first second all q.key q.end h high in
    record {
      to = λ f x. IsFoundIn-same r q.key (IsMember w second q) (IsMember w all q) (IsUpToEnd w second q.key q.end) (IsBehindEnd w second q.key q.end)
          (IsUpToEnd w all q.key q.end) (IsBehindEnd w all q.key q.end) f m b a x;
      from = λ f x. IsFoundIn-same r q.key (IsMember w all q) (IsMember w second q) (IsUpToEnd w all q.key q.end) (IsBehindEnd w all q.key q.end)
          (IsUpToEnd w second q.key q.end) (IsBehindEnd w second q.key q.end) f (same_sym (IsMember w second q) (IsMember w all q) m)
          (same_sym (IsUpToEnd w second q.key q.end) (IsUpToEnd w all q.key q.end) b) (same_sym (IsBehindEnd w second q.key q.end) (IsBehindEnd w all q.key q.end) a) x;
    }

-- complete periods are those of either
pub complete_left : (r w watermark : ℕ) (first second all : Part → Type 0) (key : PeriodKey) (e : ℕ) (item : NavItem) → Splits w watermark first second all
    → IsComplete r w first key e item → IsComplete r w all key e item
complete_left r w watermark first second all key e item h c = record {
  period = left_period w watermark first second all (end_place key e) h c.period;
  found = (found_left r w watermark first second all (end_place key e) h c.period).to (Complete item) c.found;
}

pub complete_right : (r w watermark : ℕ) (first second all : Part → Type 0) (key : PeriodKey) (e : ℕ) (item : NavItem) → Splits w watermark first second all
    → IsComplete r w second key e item → IsComplete r w all key e item
complete_right r w watermark first second all key e item h c = record {
  period = right_period w watermark first second all (end_place key e) h c.period;
  found = (found_right r w watermark first second all (end_place key e) h c.period).to (Complete item) c.found;
}

pub complete_cases : (r w watermark : ℕ) (first second all : Part → Type 0) (key : PeriodKey) (e : ℕ) (item : NavItem) → Splits w watermark first second all
    → IsComplete r w all key e item → IsComplete r w first key e item ⊎ IsComplete r w second key e item
complete_cases r w watermark first second all key e item h c = elim (period_cases w watermark first second all (end_place key e) h c.period) [
  | inl p ↦ inl (record { period = p; found = (found_left r w watermark first second all (end_place key e) h p).from (Complete item) c.found })
  | inr p ↦ inr (record { period = p; found = (found_right r w watermark first second all (end_place key e) h p).from (Complete item) c.found })
]
