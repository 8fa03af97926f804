-- The searches among stored parts find ends, the end before, and members; their digest gives the period's finding.
use Rattle.std.proofs.Common.{◌≡◌, ℕ, ◌+◌, ◌<◌, ◌≤◌, ◌⊎◌, inl, inr, Bool, true, false, not, ◌&&◌, ◌||◌, nat_lt, nat_le, if◌then◌else◌, List, [], ◌∷◌, Option, None, Some, Contains, refl, sym, ap, subst, ◌∙◌, arith, ltb-true, lt-ltb, leb-true, le-leb}
use Rattle.std.specs.List.{list_all}
use Rattle.std.proofs.lemmas.Bool.{and_parts, and_from, or_cases, or_left, or_right, both_ways, not-true, not_from_false, cases_lt}
use Rattle.nav_eph.specs.declared.part.Part.{Part}
use Rattle.periods.specs.Ends.{IsEnd, IsEndOf}
use Rattle.periods.proofs.EndFacts.{In, In-from_contains, contains_from_In}
use Rattle.periods.proofs.EndFacts.{Same, own_end}
use Rattle.periods.specs.declared.key.PeriodKey.{PeriodKey}
use Rattle.periods.specs.declared.key.PeriodId.{PeriodId}
use Rattle.periods.specs.declared.digest.Digest.{Digest}
use Rattle.periods.specs.Values.{IsBest}
use Rattle.periods.specs.Parts.{key_of}
use Rattle.periods.specs.Periods.{IsReceivedAt, IsPeriod, IsMember}
use Rattle.periods.specs.Digests.{IsDigest}
use Rattle.periods.specs.Verdicts.{IsFound, IsUpToEnd, IsBehindEnd}
use Rattle.periods.specs.DigestsOf.{digest_of, health_at}
use Rattle.periods.specs.KeyTests.{is_of}
use Rattle.periods.specs.PeriodsOf.{quiet_at, quiet, stamp_of, end_below, end_before, is_above, is_member, join_some, members_digest, finding_with, finding_at}
use Rattle.periods.proofs.Orders.{Decides}
use Rattle.periods.proofs.Folds.{some_is, none_some, Passing, best_among-is, IsBest-same}
use Rattle.periods.proofs.KeyLemmas.{is_of-is, is-is_of}
use Rattle.periods.proofs.ValueLemmas.{IsUnion}
use Rattle.periods.proofs.DigestLemmas.{digest_some, digest_of-is, digest_join-is, IsDigest-same}
use Rattle.periods.proofs.DigestFindings.{digest_finding-is}
use Rattle.periods.proofs.HealthLemmas.{health_at-is}

-- the part is not a part of the key in the window after a stamp
quiet_at-says : (w : ℕ) (key : PeriodKey) (e : ℕ) (p : Part) → quiet_at w key e p ≡ true → key_of p ≡ Some key → e < p.stamp → e + w < p.stamp
quiet_at-says w key e p h k l = elim (or_cases (not (is_of key p)) (nat_le p.stamp e || nat_lt (e + w) p.stamp) h) [
  | inl n ↦ absurd (both_ways (is_of key p) (not-true (is_of key p) n) (is-is_of key p k))
  | inr o ↦ elim (or_cases (nat_le p.stamp e) (nat_lt (e + w) p.stamp) o) [
    | inl m ↦ absurd (omega (arith, leb-true p.stamp e m))
    | inr m ↦ ltb-true (e + w) p.stamp m
  ]
]

quiet_at-by : (w : ℕ) (key : PeriodKey) (e : ℕ) (p : Part) (t : Bool) → is_of key p ≡ t → (key_of p ≡ Some key → e < p.stamp → e + w < p.stamp) → quiet_at w key e p ≡ true
quiet_at-by w key e p false et h = or_left (not (is_of key p)) (nat_le p.stamp e || nat_lt (e + w) p.stamp) (not_from_false (is_of key p) et)
quiet_at-by w key e p true et h = or_right (not (is_of key p)) (nat_le p.stamp e || nat_lt (e + w) p.stamp) (elim (cases_lt e p.stamp) [
  | inl l ↦ or_right (nat_le p.stamp e) (nat_lt (e + w) p.stamp) (lt-ltb (e + w) p.stamp (h (is_of-is key p et) l))
  | inr l ↦ or_left (nat_le p.stamp e) (nat_lt (e + w) p.stamp) (le-leb p.stamp e l)
])

all_says : (t : Part → Bool) (ps : List Part) (p : Part) → list_all t ps ≡ true → In ps p → t p ≡ true
all_says t [] p h i = absurd i
all_says t (q ∷ qs) p h (inl e) = subst (λ (x : Part). t x ≡ true) e (and_parts (t q) (list_all t qs) h).0
all_says t (q ∷ qs) p h (inr i) = all_says t qs p (and_parts (t q) (list_all t qs) h).1 i

all_by : (t : Part → Bool) (ps : List Part) → ((p : Part) → In ps p → t p ≡ true) → list_all t ps ≡ true
all_by t [] h = refl
all_by t (q ∷ qs) h = and_from (t q) (list_all t qs) (h q (inl refl)) (all_by t qs (λ p i. h p (inr i)))

-- a stamp of the key is an end exactly where no part of the key is in the window after it
pub end_from_quiet : (w : ℕ) (parts : List Part) (key : PeriodKey) (e : ℕ) (p : Part) → Contains parts p → key_of p ≡ Some key → p.stamp ≡ e → quiet parts w key e ≡ true
    → IsEnd w (IsReceivedAt (Contains parts) key) e
end_from_quiet w parts key e p i k s h = record {
  heard = record { part = p; here = i; of_key = k; at_stamp = s };
  quiet = λ x hx l. subst (λ (z : ℕ). e + w < z) hx.at_stamp
      (quiet_at-says w key e hx.part (all_says (quiet_at w key e) parts hx.part h (In-from_contains parts hx.part hx.here)) hx.of_key (subst (λ (z : ℕ). e < z) (sym hx.at_stamp) l));
}

pub quiet_from_end : (w : ℕ) (parts : List Part) (key : PeriodKey) (e : ℕ) → IsEnd w (IsReceivedAt (Contains parts) key) e → quiet parts w key e ≡ true
quiet_from_end w parts key e h = all_by (quiet_at w key e) parts (λ p i. quiet_at-by w key e p (is_of key p) refl
    (λ k l. h.quiet p.stamp (record { part = p; here = contains_from_In parts p i; of_key = k; at_stamp = refl }) l))

-- the stamps of a key
stamp_where : (key : PeriodKey) (p : Part) (s : ℕ) (t : Bool) → is_of key p ≡ t → (if t then Some p.stamp else None) ≡ Some s → (key_of p ≡ Some key) × (p.stamp ≡ s)
stamp_where key p s true et e = (is_of-is key p et, some_is p.stamp s e)
stamp_where key p s false et e = absurd (none_some s e)

pub stamp_of-is : (key : PeriodKey) (p : Part) (s : ℕ) → stamp_of key p ≡ Some s → (key_of p ≡ Some key) × (p.stamp ≡ s)
stamp_of-is key p s e = stamp_where key p s (is_of key p) refl e

pub is-stamp_of : (key : PeriodKey) (p : Part) → key_of p ≡ Some key → stamp_of key p ≡ Some p.stamp
is-stamp_of key p k = subst (λ (t : Bool). (if t then Some p.stamp else None) ≡ Some p.stamp) (sym (is-is_of key p k)) refl

-- an end of the key below another
pub record IsEndBelow (w : ℕ) (parts : Part → Type 0) (key : PeriodKey) (e s : ℕ) : Type 0 where
  pub is_end : IsEnd w (IsReceivedAt parts key) s
  pub below : s < e

abbrev pub IsAbove : ℕ → ℕ → Type 0
IsAbove a b = b < a

pub above_decides : Decides (λ a b. nat_lt b a) IsAbove
above_decides = record {
  yes = λ a b e. ltb-true b a e;
  is = λ a b h. lt-ltb b a h;
  irr = λ a h. omega arith;
  trans = λ a b c h k. omega arith;
  between = λ w a b h. elim (cases_lt b w) [ inl l ↦ inl l | inr l ↦ inr (omega arith) ];
}

pub end_before-is : (w : ℕ) (parts : List Part) (key : PeriodKey) (e : ℕ) → IsBest IsAbove (IsEndBelow w (Contains parts) key e) (end_before parts w key e)
end_before-is w parts key e = IsBest-same IsAbove (Passing (stamp_of key) (end_below parts w key e) parts) (IsEndBelow w (Contains parts) key e) (end_before parts w key e)
    (λ s h.
    let f = stamp_of-is key h.element s h.is in
    let t = and_parts (nat_lt s e) (quiet parts w key s) h.passes in
    record { is_end = end_from_quiet w parts key s h.element (contains_from_In parts h.element h.here) f.0 f.1 t.1; below = ltb-true s e t.0 })
    (λ s h.
    let p = h.is_end.heard in
    record {
      element = p.part;
      here = In-from_contains parts p.part p.here;
      is = is-stamp_of key p.part p.of_key ∙ ap Some p.at_stamp;
      passes = and_from (nat_lt s e) (quiet parts w key s) (lt-ltb s e h.below) (quiet_from_end w parts key s h.is_end);
    })
    (best_among-is (stamp_of key) (end_below parts w key e) (λ a b. nat_lt b a) IsAbove above_decides parts)

-- the members are the key's parts after the end before and up to the end
ends_from : (w : ℕ) (parts : Part → Type 0) (q : PeriodId) (before : Option ℕ) (s : ℕ) → IsPeriod w parts q → IsBest IsAbove (IsEndBelow w parts q.key q.end) before
    → is_above before s ≡ true → s ≤ q.end → IsEndOf w (IsReceivedAt parts q.key) q.end s
ends_from w parts q None s hq b a l = record {
  is_end = hq;
  after = l;
  first = λ o io m. elim (cases_lt o q.end) [ inl k ↦ absurd (b o (record { is_end = io; below = k })) | inr k ↦ k ];
}
ends_from w parts q (Some x) s hq b a l = record {
  is_end = hq;
  after = l;
  first = λ o io m. elim (cases_lt o q.end) [
    | inl k ↦ absurd (b.first o (record { is_end = io; below = k }) (omega (arith, ltb-true x s a)))
    | inr k ↦ k
  ];
}

above_from : (w : ℕ) (parts : Part → Type 0) (q : PeriodId) (before : Option ℕ) (s : ℕ) → IsBest IsAbove (IsEndBelow w parts q.key q.end) before
    → IsEndOf w (IsReceivedAt parts q.key) q.end s → is_above before s ≡ true
above_from w parts q None s b h = refl
above_from w parts q (Some x) s b h = lt-ltb x s (elim (cases_lt x s) [
  | inl l ↦ l
  | inr l ↦ absurd (omega (arith, h.first x b.here.is_end l, b.here.below))
])

-- the parts that pass the test of members
abbrev pub Tested : PeriodKey → ℕ → Option ℕ → List Part → Part → Type 0
Tested key e before parts p = In parts p × (is_member key e before p ≡ true)

pub tested_members : (w : ℕ) (parts : List Part) (q : PeriodId) (before : Option ℕ) → IsPeriod w (Contains parts) q → IsBest IsAbove (IsEndBelow w (Contains parts) q.key q.end) before
    → Same (Tested q.key q.end before parts) (IsMember w (Contains parts) q)
tested_members w parts q before hq b = record {
  to = λ p h.
      let t = and_parts (is_of q.key p) (is_above before p.stamp && nat_le p.stamp q.end) h.1 in
      let u = and_parts (is_above before p.stamp) (nat_le p.stamp q.end) t.1 in
      record {
        here = contains_from_In parts p h.0;
        of_key = is_of-is q.key p t.0;
        ends = ends_from w (Contains parts) q before p.stamp hq b u.0 (leb-true p.stamp q.end u.1);
      };
  from = λ p h. (
    In-from_contains parts p h.here,
    and_from (is_of q.key p) (is_above before p.stamp && nat_le p.stamp q.end) (is-is_of q.key p h.of_key)
        (and_from (is_above before p.stamp) (nat_le p.stamp q.end) (above_from w (Contains parts) q before p.stamp b h.ends) (le-leb p.stamp q.end h.ends.after)),
  );
}

-- the digest of a set, or none where it has no part
abbrev pub IsSomeDigest : PeriodKey → (Part → Type 0) → Option Digest → Type 0
IsSomeDigest key members None = (p : Part) → members p → ⊥
IsSomeDigest key members (Some d) = IsDigest key members d

IsSomeDigest-same : (key : PeriodKey) (a b : Part → Type 0) (o : Option Digest) → Same a b → IsSomeDigest key a o → IsSomeDigest key b o
IsSomeDigest-same key a b None s h = λ p i. h p (s.from p i)
IsSomeDigest-same key a b (Some d) s h = IsDigest-same key a b d s h

join_some-is : (key : PeriodKey) (a b c : Part → Type 0) (o : Option Digest) (d : Digest) → IsUnion a b c → IsSomeDigest key a o → IsDigest key b d → IsSomeDigest key c (join_some o (Some d))
join_some-is key a b c None d u h k = IsDigest-same key b c d (record { to = u.right; from = λ p i. elim (u.cases p i) [ inl x ↦ absurd (h p x) | inr x ↦ x ] }) k
join_some-is key a b c (Some x) d u h k = digest_join-is key a b c x d u h k

members_step : (key : PeriodKey) (e : ℕ) (before : Option ℕ) (p : Part) (so_far : Part → Type 0) (all : Option Digest) (t : Bool) → is_member key e before p ≡ t → IsSomeDigest key so_far all
    → IsSomeDigest key (λ q. so_far q ⊎ ((p ≡ q) × (is_member key e before q ≡ true))) (if t then join_some all (digest_of p) else all)
members_step key e before p so_far all true et h =
    let k : key_of p ≡ Some key = is_of-is key p (and_parts (is_of key p) (is_above before p.stamp && nat_le p.stamp e) et).0 in
    let d = digest_some p key k in
    subst (λ (o : Option Digest). IsSomeDigest key (λ q. so_far q ⊎ ((p ≡ q) × (is_member key e before q ≡ true))) (join_some all o)) (sym d.1)
    (join_some-is key so_far (λ q. q ≡ p) _ all d.0 (record {
      left = λ q i. inl i;
      right = λ q i. inr (sym i, subst (λ (x : Part). is_member key e before x ≡ true) (sym i) et);
      cases = λ q i. elim i [ inl x ↦ inl x | inr x ↦ inr (sym x.0) ];
    }) h (digest_of-is p key d.0 k d.1))
members_step key e before p so_far all false et h = IsSomeDigest-same key so_far _ all (record {
  to = λ q i. inl i;
  from = λ q i. elim i [ inl x ↦ x | inr x ↦ absurd (both_ways (is_member key e before p) et (subst (λ (y : Part). is_member key e before y ≡ true) (sym x.0) x.1)) ];
}) h

members_more : (key : PeriodKey) (e : ℕ) (before : Option ℕ) (parts : List Part) (so_far : Part → Type 0) (all : Option Digest) → IsSomeDigest key so_far all
    → IsSomeDigest key (λ q. so_far q ⊎ Tested key e before parts q) (members_digest key e before parts all)
members_more key e before [] so_far all h = IsSomeDigest-same key so_far _ all (record { to = λ q i. inl i; from = λ q i. elim i [ inl x ↦ x | inr x ↦ absurd x.0 ] }) h
members_more key e before (p ∷ ps) so_far all h =
    IsSomeDigest-same key (λ q. (so_far q ⊎ ((p ≡ q) × (is_member key e before q ≡ true))) ⊎ Tested key e before ps q) _
    (members_digest key e before ps (if is_member key e before p then join_some all (digest_of p) else all)) (record {
      to = λ q i. elim i [
        | inl x ↦ elim x [ inl y ↦ inl y | inr y ↦ inr (inl y.0, y.1) ]
        | inr x ↦ inr (inr x.0, x.1)
      ];
      from = λ q i. elim i [
        | inl x ↦ inl (inl x)
        | inr x ↦ elim x.0 [ inl y ↦ inl (inr (y, x.1)) | inr y ↦ inr (y, x.1) ]
      ];
    })
    (members_more key e before ps (λ q. so_far q ⊎ ((p ≡ q) × (is_member key e before q ≡ true))) (if is_member key e before p then join_some all (digest_of p) else all)
    (members_step key e before p so_far all (is_member key e before p) refl h))

pub members_digest-is : (key : PeriodKey) (e : ℕ) (before : Option ℕ) (parts : List Part) → IsSomeDigest key (Tested key e before parts) (members_digest key e before parts None)
members_digest-is key e before parts = IsSomeDigest-same key (λ q. ⊥ ⊎ Tested key e before parts q) (Tested key e before parts) (members_digest key e before parts None)
    (record { to = λ q i. elim i [ inl x ↦ absurd x | inr x ↦ x ]; from = λ q i. inr i }) (members_more key e before parts (λ q. ⊥) None (λ p i. i))

-- the digest of the members, with the health near the end, gives the period's finding
finding_with-is : (r w : ℕ) (parts : List Part) (q : PeriodId) (o : Option Digest) → IsPeriod w (Contains parts) q → IsSomeDigest q.key (IsMember w (Contains parts) q) o
    → IsFound r w (Contains parts) q (finding_with r w parts q o)
finding_with-is r w parts q None hq h =
    let p = hq.heard in
    absurd (h p.part (record { here = p.here; of_key = p.of_key; ends = subst (λ (s : ℕ). IsEndOf w (IsReceivedAt (Contains parts) q.key) q.end s) (sym p.at_stamp) (own_end w (IsReceivedAt (Contains parts) q.key) q.end hq) }))
finding_with-is r w parts q (Some d) hq h =
    digest_finding-is r q.key (IsMember w (Contains parts) q) (IsUpToEnd w (Contains parts) q.key q.end) (IsBehindEnd w (Contains parts) q.key q.end) d (health_at w parts q.key q.end) h
    (health_at-is w parts q.key q.end)

pub finding_at-is : (r w : ℕ) (parts : List Part) (q : PeriodId) → IsPeriod w (Contains parts) q → IsFound r w (Contains parts) q (finding_at r w parts q)
finding_at-is r w parts q hq =
    let before = end_before parts w q.key q.end in
    finding_with-is r w parts q (members_digest q.key q.end before parts None) hq
    (IsSomeDigest-same q.key (Tested q.key q.end before parts) (IsMember w (Contains parts) q) (members_digest q.key q.end before parts None)
    (tested_members w parts q before hq (end_before-is w parts q.key q.end)) (members_digest-is q.key q.end before parts))
