-- One more part: the periods within the window of it become one period with it, all others stay.
use Rattle.std.proofs.Common.{◌≡◌, ℕ, ◌+◌, ◌<◌, ◌≤◌, ◌⊎◌, inl, inr, List, [], ◌∷◌, ◌++◌, Option, None, Some, Contains, refl, sym, ap, subst, ◌∙◌}
use Rattle.std.proofs.lemmas.List.Elements.{Contains-append_left, Contains-push, Contains-push_cases}
use Rattle.nav_eph.specs.declared.part.Part.{Part}
use Rattle.periods.specs.Ends.{IsEndOf}
use Rattle.periods.specs.Joining.{IsWith, IsTouchedEnd, IsJoinedEnd}
use Rattle.periods.proofs.EndFacts.{In-from_contains, contains_from_In}
use Rattle.periods.proofs.EndFacts.{Same, IsKnown, IsKnown-same, ReadOf, known_list, IsEnd-same, IsEndOf-same, same_sym}
use Rattle.periods.proofs.EndFacts.{joined, joined_touched, other_stays, at_most_two}
use Rattle.periods.specs.declared.key.PeriodKey.{PeriodKey}
use Rattle.periods.specs.declared.key.PeriodId.{PeriodId}
use Rattle.periods.specs.Parts.{key_of}
use Rattle.periods.specs.Periods.{IsReceivedAt, IsPeriod, IsMember}
use Rattle.periods.specs.Touching.{IsTouched, Stays, IsJoined}
use Rattle.periods.specs.PeriodsOf.{stamp_of}
use Rattle.periods.proofs.Folds.{some_is}
use Rattle.periods.proofs.KeyLemmas.{cases_key}
use Rattle.periods.proofs.SearchLemmas.{stamp_of-is, is-stamp_of}

-- whether a stamp is of a part of the key is decidable
pub known_parts : (w : ℕ) (parts : List Part) (key : PeriodKey) → IsKnown w (IsReceivedAt (Contains parts) key)
known_parts w parts key = IsKnown-same w (ReadOf (stamp_of key) parts) (IsReceivedAt (Contains parts) key) (record {
  to = λ s h. let f = stamp_of-is key h.0 s h.2 in record { part = h.0; here = contains_from_In parts h.0 h.1; of_key = f.0; at_stamp = f.1 };
  from = λ s h. (h.part, In-from_contains parts h.part h.here, is-stamp_of key h.part h.of_key ∙ ap Some h.at_stamp);
}) (known_list w (stamp_of key) parts)

-- the second set is the first with one part more
pub record IsWithPart (old new : Part → Type 0) (p : Part) : Type 0 where
  pub keeps : (q : Part) → old q → new q
  pub has : new p
  pub only : (q : Part) → new q → old q ⊎ (p ≡ q)

pub with_part : (parts : List Part) (p : Part) → IsWithPart (Contains parts) (Contains (parts ++ p ∷ [])) p
with_part parts p = record {
  keeps = λ q h. Contains-append_left parts (p ∷ []) q h;
  has = Contains-push parts p;
  only = λ q h. Contains-push_cases parts p q h;
}

heard : (parts : Part → Type 0) (key : PeriodKey) (p : Part) → parts p → key_of p ≡ Some key → IsReceivedAt parts key p.stamp
heard parts key p h k = record { part = p; here = h; of_key = k; at_stamp = refl }

heard_with : (old new : Part → Type 0) (p : Part) (key : PeriodKey) → IsWithPart old new p → key_of p ≡ Some key → IsWith (IsReceivedAt old key) (IsReceivedAt new key) p.stamp
heard_with old new p key m k = record {
  keeps = λ s h. record { part = h.part; here = m.keeps h.part h.here; of_key = h.of_key; at_stamp = h.at_stamp };
  has = heard new key p m.has k;
  only = λ s h. elim (m.only h.part h.here) [
    | inl o ↦ inl (record { part = h.part; here = o; of_key = h.of_key; at_stamp = h.at_stamp })
    | inr e ↦ inr (ap (λ (x : Part). x.stamp) e ∙ h.at_stamp)
  ];
}

heard_other : (old new : Part → Type 0) (p : Part) (key : PeriodKey) → IsWithPart old new p → (key_of p ≡ Some key → ⊥) → Same (IsReceivedAt old key) (IsReceivedAt new key)
heard_other old new p key m apart = record {
  to = λ s h. record { part = h.part; here = m.keeps h.part h.here; of_key = h.of_key; at_stamp = h.at_stamp };
  from = λ s h. elim (m.only h.part h.here) [
    | inl o ↦ record { part = h.part; here = o; of_key = h.of_key; at_stamp = h.at_stamp }
    | inr e ↦ absurd (apart (ap key_of e ∙ h.of_key))
  ];
}

-- touched ends and touched periods
touched_end : (w : ℕ) (old : Part → Type 0) (p : Part) (q : PeriodId) → IsTouched w old p q → IsTouchedEnd w (IsReceivedAt old q.key) p.stamp q.end
touched_end w old p q t = record {
  member = t.member.stamp;
  heard = heard old q.key t.member t.is_member.here t.is_member.of_key;
  ends = t.is_member.ends;
  not_far_after = t.not_far_after;
  not_far_before = t.not_far_before;
}

end_touched : (w : ℕ) (old : Part → Type 0) (p : Part) (q : PeriodId) → key_of p ≡ Some q.key → IsTouchedEnd w (IsReceivedAt old q.key) p.stamp q.end → IsTouched w old p q
end_touched w old p q k t =
    let h = t.heard in
    record {
      of_key = k;
      member = h.part;
      is_member = record { here = h.here; of_key = h.of_key; ends = subst (λ (s : ℕ). IsEndOf w (IsReceivedAt old q.key) q.end s) (sym h.at_stamp) t.ends };
      not_far_after = subst (λ (s : ℕ). s ≤ p.stamp + w) (sym h.at_stamp) t.not_far_after;
      not_far_before = subst (λ (s : ℕ). p.stamp ≤ s + w) (sym h.at_stamp) t.not_far_before;
    }

abbrev at_place : ℕ → PeriodKey → PeriodId
at_place e key = record { end = e; key = key }

-- a place with an equal key
rekeyed : (q : PeriodId) (key : PeriodKey) → q.key ≡ key → q ≡ at_place q.end key
rekeyed q key e = λ i. record { end = q.end; key = e i }

one_key : (p : Part) (j k : PeriodKey) → key_of p ≡ Some j → key_of p ≡ Some k → j ≡ k
one_key p j k a b = some_is j k (sym a ∙ b)

-- the periods that the new part touches
has_touched : (w : ℕ) (old new : Part → Type 0) (p : Part) (key : PeriodKey) (e : ℕ) → IsWithPart old new p → IsJoinedEnd w (IsReceivedAt old key) (IsReceivedAt new key) p.stamp e
    → (t : ℕ) → IsTouched w old p (at_place t key) → (x : Part) → IsMember w old (at_place t key) x → IsMember w new (at_place e key) x
has_touched w old new p key e m j t touch x h = record {
  here = m.keeps x h.here;
  of_key = h.of_key;
  ends = j.has_touched t x.stamp (touched_end w old p (at_place t key) touch) (heard old key x h.here h.of_key) h.ends;
}

others_at : (w : ℕ) (old new : Part → Type 0) (p : Part) (key : PeriodKey) (e : ℕ) → key_of p ≡ Some key → IsJoinedEnd w (IsReceivedAt old key) (IsReceivedAt new key) p.stamp e
    → (o : ℕ) → IsPeriod w new (at_place o key) → (at_place o key ≡ at_place e key) ⊎ (IsPeriod w old (at_place o key) × (IsTouched w old p (at_place o key) → ⊥))
others_at w old new p key e k j o h = elim (j.others o h) [
  | inl same ↦ inl (ap (λ (x : ℕ). at_place x key) same)
  | inr u ↦ inr (u.0, λ touch. u.1 (touched_end w old p (at_place o key) touch))
]

-- the new part and the touched periods make one period
pub joined_part : (w : ℕ) (old new : Part → Type 0) (p : Part) (key : PeriodKey) → IsKnown w (IsReceivedAt old key) → IsKnown w (IsReceivedAt new key) → IsWithPart old new p → key_of p ≡ Some key
    → (q : PeriodId) × IsJoined w old p new q
joined_part w old new p key kn kn' m k =
    let j = joined w p.stamp (IsReceivedAt old key) (IsReceivedAt new key) kn kn' (heard_with old new p key m k) in
    let q = at_place j.0 key in (
      q,
      record {
        period = j.1.has_new.is_end;
        has_new = record { here = m.has; of_key = k; ends = j.1.has_new };
        has_touched = λ t touch.
            subst (λ (z : PeriodId). IsTouched w old p z → (x : Part) → IsMember w old z x → IsMember w new q x) (sym (rekeyed t key (one_key p t.key key touch.of_key k)))
            (has_touched w old new p key j.0 m j.1 t.end) touch;
        no_more = λ x h. elim (m.only x h.here) [
          | inl o ↦
              let n = j.1.no_more x.stamp (heard old key x o h.of_key) h.ends in
              inr (at_place n.0 key, end_touched w old p (at_place n.0 key) k n.1, record { here = o; of_key = h.of_key; ends = n.2 })
          | inr e ↦ inl (sym e)
        ];
        others = λ o h. elim (cases_key o.key key) [
          | inl e ↦
              subst (λ (z : PeriodId). IsPeriod w new z → (z ≡ q) ⊎ (IsPeriod w old z × (IsTouched w old p z → ⊥))) (sym (rekeyed o key e))
              (others_at w old new p key j.0 k j.1 o.end) h
          | inr apart ↦ inr (
            IsEnd-same w (IsReceivedAt new o.key) (IsReceivedAt old o.key) o.end
                (same_sym (IsReceivedAt old o.key) (IsReceivedAt new o.key) (heard_other old new p o.key m (λ z. apart (one_key p o.key key z k)))) h,
            λ touch. apart (one_key p o.key key touch.of_key k),
          )
        ];
      },
    )

-- periods that are not touched stay
other_key_stays : (w : ℕ) (old new : Part → Type 0) (p : Part) (q : PeriodId) → IsWithPart old new p → (key_of p ≡ Some q.key → ⊥) → IsPeriod w old q → Stays w old new q
other_key_stays w old new p q m apart hq =
    let s = heard_other old new p q.key m apart in
    record {
      period = IsEnd-same w (IsReceivedAt old q.key) (IsReceivedAt new q.key) q.end s hq;
      keeps = λ x h. record { here = m.keeps x h.here; of_key = h.of_key; ends = IsEndOf-same w (IsReceivedAt old q.key) (IsReceivedAt new q.key) q.end x.stamp s h.ends };
      adds_none = λ x h. record {
        here = elim (m.only x h.here) [ inl o ↦ o | inr e ↦ absurd (apart (ap key_of e ∙ h.of_key)) ];
        of_key = h.of_key;
        ends = IsEndOf-same w (IsReceivedAt new q.key) (IsReceivedAt old q.key) q.end x.stamp (same_sym (IsReceivedAt old q.key) (IsReceivedAt new q.key) s) h.ends;
      };
    }

same_key_stays : (w : ℕ) (old new : Part → Type 0) (p : Part) (q : PeriodId) → IsKnown w (IsReceivedAt old q.key) → IsKnown w (IsReceivedAt new q.key) → IsWithPart old new p → key_of p ≡ Some q.key
    → IsPeriod w old q → (IsTouched w old p q → ⊥) → Stays w old new q
same_key_stays w old new p q kn kn' m k hq none =
    let hw = heard_with old new p q.key m k in
    let far : IsTouchedEnd w (IsReceivedAt old q.key) p.stamp q.end → ⊥ = λ t. none (end_touched w old p q k t) in
    let s = other_stays w p.stamp (IsReceivedAt old q.key) (IsReceivedAt new q.key) q.end kn kn' hw hq far in
    record {
      period = s.is_end;
      keeps = λ x h. record { here = m.keeps x h.here; of_key = h.of_key; ends = s.keeps x.stamp (heard old q.key x h.here h.of_key) h.ends };
      adds_none = λ x h. record {
        here = elim (m.only x h.here) [
          | inl o ↦ o
          | inr e ↦ absurd (far (joined_touched w p.stamp (IsReceivedAt old q.key) (IsReceivedAt new q.key) q.end kn kn' hw hq
              (subst (λ (y : Part). IsEndOf w (IsReceivedAt new q.key) q.end y.stamp) (sym e) h.ends)))
        ];
        of_key = h.of_key;
        ends = (s.adds_none x.stamp (heard new q.key x h.here h.of_key) h.ends).1;
      };
    }

is_of_cases : (o : Option PeriodKey) (key : PeriodKey) → (o ≡ Some key) ⊎ (o ≡ Some key → ⊥)
is_of_cases None key = inr (λ e. cc)
is_of_cases (Some k) key = elim (cases_key k key) [ inl e ↦ inl (ap Some e) | inr n ↦ inr (λ e. n (some_is k key e)) ]

pub rest_stays : (w : ℕ) (old new : Part → Type 0) (p : Part) (q : PeriodId) → IsKnown w (IsReceivedAt old q.key) → IsKnown w (IsReceivedAt new q.key) → IsWithPart old new p
    → IsPeriod w old q → (IsTouched w old p q → ⊥) → Stays w old new q
rest_stays w old new p q kn kn' m hq none = elim (is_of_cases (key_of p) q.key) [
  | inl k ↦ same_key_stays w old new p q kn kn' m k hq none
  | inr apart ↦ other_key_stays w old new p q m apart hq
]

-- at most two periods are touched
touched_at : (w : ℕ) (old : Part → Type 0) (p : Part) (q : PeriodId) (key : PeriodKey) → key_of p ≡ Some key → IsTouched w old p q → IsTouchedEnd w (IsReceivedAt old key) p.stamp q.end
touched_at w old p q key k t = subst (λ (z : PeriodKey). IsTouchedEnd w (IsReceivedAt old z) p.stamp q.end) (one_key p q.key key t.of_key k) (touched_end w old p q t)

pub two_at_most : (w : ℕ) (old : Part → Type 0) (p : Part) (a b c : PeriodId) → IsTouched w old p a → IsTouched w old p b → IsTouched w old p c → a.end < b.end → b.end < c.end → ⊥
two_at_most w old p a b c ta tb tc l m =
    at_most_two w p.stamp (IsReceivedAt old a.key) a.end b.end c.end (touched_end w old p a ta) (touched_at w old p b a.key ta.of_key tb) (touched_at w old p c a.key ta.of_key tc) l m
