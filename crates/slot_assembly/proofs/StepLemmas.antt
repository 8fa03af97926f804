-- After a part is taken, the store has exactly one slot for each period.
use Rattle.std.proofs.Common.{◌≡◌, ℕ, ◌≤◌, ◌⊎◌, inl, inr, Bool, true, false, cond, ◌==◌, List, Option, None, Some, refl, sym, ap, subst, ◌∙◌, arith, eqb-true, eq-eqb}
use Rattle.std.specs.BTreeMap.{is_at}
use Rattle.std.proofs.lemmas.Bool.{both_ways}
use Rattle.nav_eph.specs.declared.part.Part.{Part}
use Rattle.periods.proofs.Surface.{Same}
use Rattle.periods.specs.declared.key.PeriodKey.{PeriodKey}
use Rattle.periods.specs.declared.key.PeriodId.{PeriodId}
use Rattle.periods.specs.Periods.{IsPeriod, IsMember}
use Rattle.periods.specs.Touching.{IsTouched, IsJoined, Stays}
use Rattle.periods.proofs.Surface.{some_is, IsKeyValue, IsDigest-same, rest_stays}
use Rattle.slot_assembly.specs.Standing.{IsAfter}
use Rattle.slot_assembly.specs.declared.order.ByStart.{ByStart}
use Rattle.slot_assembly.specs.declared.slot.Slot.{Slot}
use Rattle.slot_assembly.specs.declared.slot.Held.{Held}
use Rattle.slot_assembly.specs.contracts.order.ByStartOrd.TheImpl.{cmp-value as start_cmp}
use Rattle.slot_assembly.specs.Order.{rank_of, by_start}
use Rattle.slot_assembly.specs.Slots.{kept_at, at_of, merged, slot_place, slot_with, IsOpen, IsChanged, IsGoneUnless, IsWithout, IsReplaced, IsTaken}
use Rattle.slot_assembly.specs.SlotStanding.{IsSlot, AreSlots}
use Rattle.slot_assembly.proofs.RankOrder.{at_is, is_at_own, one_rank, at_rank}
use Rattle.slot_assembly.proofs.Changes.{left_open}
use Rattle.slot_assembly.proofs.TakeLemmas.{Sums, sums_same, sums_one, sums_with, sums_slot, sums_end, one_end}
use Rattle.slot_assembly.proofs.JoinLemmas.{Taking, Touched, Finds, finds}

-- an untouched slot stays
pub IsSlot-stays : (w : ℕ) (old new : Part → Type 0) (last : Option PeriodId) (s : Slot) → IsSlot w old last s → Stays w old new (slot_place s) → IsSlot w new last s
IsSlot-stays w old new last s h t = record {
  period = t.period;
  after = h.after;
  starts = (h.starts.0, t.keeps h.starts.0 h.starts.1, h.starts.2);
  start = λ p m. h.start p (t.adds_none p m);
  digest = IsDigest-same s.key (IsMember w old (slot_place s)) (IsMember w new (slot_place s)) s.digest (record { to = t.keeps; from = t.adds_none }) h.digest;
}

-- a slot stored after a removal was stored before
without_was : (old new : List (ByStart × Held)) (o : Option Slot) (e : ℕ) (s : Slot) → IsWithout old o e new → IsOpen new s → IsOpen old s × ((f : Slot) → o ≡ Some f → (f.start ≡ e) ⊎ (is_at (start_cmp.it (at_of f)) (at_of s) ≡ false))
without_was old new None e s h i = (sym (h (at_of s)) ∙ i, λ f k. absurd (let z : None ≡ Some f = k in cc))
without_was old new (Some g) e s h i = by (g.start == e) refl
  where
    by : (b : Bool) → g.start == e ≡ b → IsOpen old s × ((f : Slot) → Some g ≡ Some f → (f.start ≡ e) ⊎ (is_at (start_cmp.it (at_of f)) (at_of s) ≡ false))
    by true k =
        let same = subst (λ (b : Bool). IsGoneUnless b old g new) k h in
        (sym (same (at_of s)) ∙ i, λ f m. inl (subst (λ (x : Slot). x.start ≡ e) (some_is g f m) (eqb-true g.start e k)))
    by false k =
        let l = left_open old new (at_of g) (at_of s) s (subst (λ (b : Bool). IsGoneUnless b old g new) k h) i in
        (l.1, λ f m. inr (subst (λ (x : Slot). is_at (start_cmp.it (at_of x)) (at_of s) ≡ false) (some_is g f m) l.0))

-- and a slot stored before is stored after it, where it is another or was to stay
without_keeps : (old new : List (ByStart × Held)) (o : Option Slot) (e : ℕ) (s : Slot) → IsWithout old o e new → IsOpen old s → ((f : Slot) → o ≡ Some f → (f.start ≡ e → ⊥) → is_at (start_cmp.it (at_of f)) (at_of s) ≡ false) → IsOpen new s
without_keeps old new None e s h i apart = h (at_of s) ∙ i
without_keeps old new (Some g) e s h i apart = by (g.start == e) refl
  where
    by : (b : Bool) → g.start == e ≡ b → IsOpen new s
    by true k = (subst (λ (b : Bool). IsGoneUnless b old g new) k h) (at_of s) ∙ i
    by false k =
        let c : IsChanged old (at_of g) None new = subst (λ (b : Bool). IsGoneUnless b old g new) k h in
        let n = apart g refl (λ e'. both_ways (g.start == e) k (eq-eqb g.start e e')) in
        c (at_of s) ∙ ap (λ (b : Bool). cond b None (kept_at old (at_of s))) n ∙ i

-- an inserted slot is stored at its place, and all others as before
put_was : (old new : List (ByStart × Held)) (j s : Slot) → IsChanged old (at_of j) (Some j) new → IsOpen new s → (j ≡ s) ⊎ (IsOpen old s × (is_at (start_cmp.it (at_of j)) (at_of s) ≡ false))
put_was old new j s h i = by (is_at (start_cmp.it (at_of j)) (at_of s)) refl
  where
    by : (b : Bool) → is_at (start_cmp.it (at_of j)) (at_of s) ≡ b → (j ≡ s) ⊎ (IsOpen old s × (is_at (start_cmp.it (at_of j)) (at_of s) ≡ false))
    by true k = inl (some_is j s (sym (ap (λ (b : Bool). cond b (Some j) (kept_at old (at_of s))) k) ∙ sym (h (at_of s)) ∙ i))
    by false k = inr (sym (ap (λ (b : Bool). cond b (Some j) (kept_at old (at_of s))) k) ∙ sym (h (at_of s)) ∙ i, k)

put_has : (old new : List (ByStart × Held)) (j : Slot) → IsChanged old (at_of j) (Some j) new → IsOpen new j
put_has old new j h = h (at_of j) ∙ ap (λ (b : Bool). cond b (Some j) (kept_at old (at_of j))) (is_at_own (at_of j))

put_keeps : (old new : List (ByStart × Held)) (j s : Slot) → IsChanged old (at_of j) (Some j) new → IsOpen old s → is_at (start_cmp.it (at_of j)) (at_of s) ≡ false → IsOpen new s
put_keeps old new j s h i k = h (at_of s) ∙ ap (λ (b : Bool). cond b (Some j) (kept_at old (at_of s))) k ∙ i

-- two slots of different starts have different places
starts_differ : (f s : Slot) → (f.start ≡ s.start → ⊥) → is_at (start_cmp.it (at_of f)) (at_of s) ≡ false
starts_differ f s n = by (is_at (start_cmp.it (at_of f)) (at_of s)) refl
  where
    by : (b : Bool) → is_at (start_cmp.it (at_of f)) (at_of s) ≡ b → is_at (start_cmp.it (at_of f)) (at_of s) ≡ false
    by true k = absurd (n (ap (λ (x : ByStart). x.start) (at_is (at_of f) (at_of s) k)))
    by false k = k

module _ (w : ℕ) (old new : Part → Type 0) (last : Option PeriodId) (p : Part) (key : PeriodKey) (slots : List (ByStart × Held)) where
  -- the members of the part's slot merged with the slots found
  abbrev FoundMember : Option Slot → Option Slot → Part → Type 0
  FoundMember first second q = ((q ≡ p) ⊎ ((f : Slot) × (first ≡ Some f) × IsMember w old (slot_place f) q)) ⊎ ((f : Slot) × (second ≡ Some f) × IsMember w old (slot_place f) q)

  abbrev FoundOf : (Part → Type 0) → Option Slot → Part → Type 0
  FoundOf a o q = a q ⊎ ((f : Slot) × (o ≡ Some f) × IsMember w old (slot_place f) q)

  sums_found : Taking w old new last p key slots → (a : Part → Type 0) (x : Slot) (o : Option Slot) → Sums key a x → ((s : Slot) → o ≡ Some s → Touched w old new last p key slots s)
      → Sums key (FoundOf a o) (slot_with x o)
  sums_found t a x None h k = sums_same key a (FoundOf a None) x (record {
    to = λ q i. inl i;
    from = λ q i. elim i [ inl j ↦ j | inr f ↦ absurd (let z : None ≡ Some f.0 = f.1 in cc) ];
  }) h
  sums_found t a x (Some g) h k =
      let c = k g refl in
      sums_with key a (IsMember w old (slot_place g)) (FoundOf a (Some g)) x g (record {
        left = λ q i. inl i;
        right = λ q i. inr (g, refl, i);
        cases = λ q i. elim i [ inl j ↦ inl j | inr f ↦ inr (subst (λ (s : Slot). IsMember w old (slot_place s) q) (sym (some_is g f.0 f.1)) f.2) ];
      }) h (subst (λ (z : PeriodKey). Sums z (IsMember w old (slot_place g)) g) (sym c.same_key) (sums_slot w old last g (t.are.each g c.open_one)))

  sums_merged : Taking w old new last p key slots → (a : Part → Type 0) (one : Slot) (o : Option Slot) → Sums key a one → ((s : Slot) → o ≡ Some s → Touched w old new last p key slots s)
      → Sums key (FoundOf a o) (merged o one)
  sums_merged t a one None h k = sums_found t a one None h k
  sums_merged t a one (Some g) h k =
      let c = k g refl in
      sums_with key (IsMember w old (slot_place g)) a (FoundOf a (Some g)) g one (record {
        left = λ q i. inr (g, refl, i);
        right = λ q i. inl i;
        cases = λ q i. elim i [ inl j ↦ inr j | inr f ↦ inl (subst (λ (s : Slot). IsMember w old (slot_place s) q) (sym (some_is g f.0 f.1)) f.2) ];
      }) (subst (λ (z : PeriodKey). Sums z (IsMember w old (slot_place g)) g) (sym c.same_key) (sums_slot w old last g (t.are.each g c.open_one))) h

  -- they are the members of the joined period
  members_found : Taking w old new last p key slots → (first second : Option Slot) → Finds w old new last p key slots first second → (q : PeriodId) → IsJoined w old p new q
      → ((z : PeriodId) → IsTouched w old p z → IsAfter last z) → Same (FoundMember first second) (IsMember w new q)
  members_found t first second f q j behind = record {
    to = λ x i. elim i [
      | inl a ↦ elim a [
        | inl e ↦ subst (IsMember w new q) (sym e) j.has_new
        | inr g ↦ j.has_touched (slot_place g.0) (f.one g.0 g.1).touches x g.2
      ]
      | inr g ↦ j.has_touched (slot_place g.0) (f.other g.0 g.1).touches x g.2
    ];
    from = λ x i. elim (j.no_more x i) [
      | inl e ↦ inl (inl e)
      | inr g ↦
          let s = t.are.every g.0 g.1.is_member.ends.is_end (behind g.0 g.1) in
          let c : Touched w old new last p key slots s.0 = record {
            open_one = s.1;
            same_key = some_is key s.0.key (sym t.of_key ∙ g.1.of_key ∙ ap (λ (z : PeriodId). Some z.key) (sym s.2));
            touches = subst (IsTouched w old p) (sym s.2) g.1;
          } in
          let m = subst (λ (z : PeriodId). IsMember w old z x) (sym s.2) g.2 in
          elim (f.all s.0 c) [ inl e ↦ inl (inr (s.0, e, m)) | inr e ↦ inr (s.0, e, m) ]
    ];
  }

  abbrev Old : Slot → Type 0
  Old s = IsOpen slots s × (Touched w old new last p key slots s → ⊥)

  -- a slot stored afterwards is the joined slot, or was stored before and is not touched
  is_left : Taking w old new last p key slots → (first second : Option Slot) → Finds w old new last p key slots first second → (j : Slot) → j.key ≡ key → (slots' : List (ByStart × Held)) → IsReplaced slots j first second slots'
      → (s : Slot) → IsOpen slots' s → (j ≡ s) ⊎ Old s
  is_left t first second f j k slots' r s i =
      let b = without_was r.one slots' second j.start s r.without_second i in
      let a = without_was r.put r.one first j.start s r.without_first b.0 in
      let same : (g : Slot) → Touched w old new last p key slots g → g.start ≡ j.start → at_of j ≡ at_of g = λ g c e.
      ap (λ (x : PeriodKey). by_start (rank_of x) j.start) (k ∙ c.same_key) ∙ ap (λ (x : ℕ). by_start (rank_of g.key) x) (sym e) in
      elim (put_was slots r.put j s r.has a.0) [
        | inl e ↦ inl e
        | inr o ↦ inr (
          o.0,
          λ c.
              let gone : (g : Slot) → Touched w old new last p key slots g → g ≡ s → (g.start ≡ j.start) ⊎ (is_at (start_cmp.it (at_of g)) (at_of s) ≡ false) → ⊥ = λ g d e x. elim x [
                | inl y ↦ both_ways (is_at (start_cmp.it (at_of j)) (at_of s)) o.1
                    (subst (λ (z : ByStart). is_at (start_cmp.it z) (at_of s) ≡ true) (sym (same g d y ∙ ap at_of e)) (is_at_own (at_of s)))
                | inr y ↦ both_ways (is_at (start_cmp.it (at_of g)) (at_of s)) y (subst (λ (z : Slot). is_at (start_cmp.it (at_of z)) (at_of s) ≡ true) (sym e) (is_at_own (at_of s)))
              ] in
              elim (f.all s c) [ inl e ↦ gone s c refl (a.1 s e) | inr e ↦ gone s c refl (b.1 s e) ],
        )
      ]

  -- the joined slot is stored
  joined_stands : (first second : Option Slot) (j : Slot) (slots' : List (ByStart × Held)) → IsReplaced slots j first second slots' → IsOpen slots' j
  joined_stands first second j slots' r =
      without_keeps r.one slots' second j.start j r.without_second
      (without_keeps r.put r.one first j.start j r.without_first (put_has slots r.put j r.has) (λ g e n. starts_differ g j n)) (λ g e n. starts_differ g j n)

  -- and so is each untouched slot, where its place is another
  rest_stands : Taking w old new last p key slots → (first second : Option Slot) → Finds w old new last p key slots first second → (j : Slot) (slots' : List (ByStart × Held)) → IsReplaced slots j first second slots'
      → (s : Slot) → Old s → is_at (start_cmp.it (at_of j)) (at_of s) ≡ false → IsOpen slots' s
  rest_stands t first second f j slots' r s o n =
      let apart : (g : Slot) → Touched w old new last p key slots g → is_at (start_cmp.it (at_of g)) (at_of s) ≡ false = λ g c. not_at g c (is_at (start_cmp.it (at_of g)) (at_of s)) refl in
      without_keeps r.one slots' second j.start s r.without_second
      (without_keeps r.put r.one first j.start s r.without_first (put_keeps slots r.put j s r.has o.0 n) (λ g e m. apart g (f.one g e))) (λ g e m. apart g (f.other g e))
    where
      not_at : (g : Slot) → Touched w old new last p key slots g → (b : Bool) → is_at (start_cmp.it (at_of g)) (at_of s) ≡ b → is_at (start_cmp.it (at_of g)) (at_of s) ≡ false
      not_at g c true k =
          let e : g ≡ s = some_is g s (sym c.open_one ∙ ap (kept_at slots) (at_is (at_of g) (at_of s) k) ∙ o.0) in
          absurd (o.1 (subst (Touched w old new last p key slots) e c))
      not_at g c false k = k

  -- slots that are not touched stay
  old_stays : Taking w old new last p key slots → (s : Slot) → Old s → Stays w old new (slot_place s)
  old_stays t s o =
      rest_stays w old new p (slot_place s) (t.known s.key) (t.knows s.key) t.with (t.are.each s o.0).period
      (λ c. o.1 (record { open_one = o.0; same_key = some_is key s.key (sym t.of_key ∙ c.of_key); touches = c }))

  -- the joined slot is that of the joined period
  joined_slot : (q : PeriodId) (j : Slot) → IsJoined w old p new q → q.key ≡ j.key → IsAfter last q → Sums j.key (IsMember w new q) j → (q ≡ slot_place j) × IsSlot w new last j
  joined_slot q j m e after s =
      let k = subst (λ (x : PeriodKey). Sums x (IsMember w new q) j) (sym e) s in
      let end = sums_end w new q j m.period k in
      let same : q ≡ slot_place j = λ i. record { end = sym end i; key = e i } in (
        same,
        record {
          period = subst (IsPeriod w new) same m.period;
          after = subst (IsAfter last) same after;
          starts = subst (λ (z : PeriodId). (x : Part) × IsMember w new z x × (x.stamp ≡ j.start)) same s.starts;
          start = subst (λ (z : PeriodId). (x : Part) → IsMember w new z x → j.start ≤ x.stamp) same s.start;
          digest = (subst (λ (z : PeriodId). Sums j.key (IsMember w new z) j) same s).digest;
        },
      )

  are_slots : Taking w old new last p key slots → (first second : Option Slot) → Finds w old new last p key slots first second → (j : Slot) → j.key ≡ key → (slots' : List (ByStart × Held)) → IsReplaced slots j first second slots'
      → (q : PeriodId) → IsJoined w old p new q → q ≡ slot_place j → IsSlot w new last j → AreSlots w new last slots'
  are_slots t first second f j k slots' r q m same h = record {
    each = λ s i. elim (is_left t first second f j k slots' r s i) [
      | inl e ↦ subst (IsSlot w new last) e h
      | inr o ↦ IsSlot-stays w old new last s (t.are.each s o.0) (old_stays t s o)
    ];
    every = λ z hz after. elim (m.others z hz) [
      | inl e ↦ (j, joined_stands first second j slots' r, sym (e ∙ same))
      | inr u ↦
          let s = t.are.every z u.0 after in
          let o : Old s.0 = (s.1, λ c. u.1 (subst (IsTouched w old p) s.2 c.touches)) in
          (s.0, rest_stands t first second f j slots' r s.0 o (other_at s.0 o (is_at (start_cmp.it (at_of j)) (at_of s.0)) refl), s.2)
    ];
  }
    where
      other_at : (s : Slot) → Old s → (b : Bool) → is_at (start_cmp.it (at_of j)) (at_of s) ≡ b → is_at (start_cmp.it (at_of j)) (at_of s) ≡ false
      other_at s o true x =
          let e = at_rank (rank_of j.key) (rank_of s.key) j.start s.start (at_is (at_of j) (at_of s) x) in
          let one : j.key ≡ s.key = one_rank j.key s.key (subst IsKeyValue (sym k) t.value) (t.values s o.0) e.0 in
          let end = one_end w new last j s h (IsSlot-stays w old new last s (t.are.each s o.0) (old_stays t s o)) one e.1 in
          let place : q ≡ slot_place s = same ∙ (λ i. record { end = end i; key = one i }) in
          let member = (old_stays t s o).adds_none p (subst (λ (y : PeriodId). IsMember w new y p) place m.has_new) in
          absurd (o.1 (record {
            open_one = o.0;
            same_key = sym k ∙ one;
            touches = record { of_key = member.of_key; member = p; is_member = member; not_far_after = omega arith; not_far_before = omega arith };
          }))
      other_at s o false x = x

  joined_key : (s : Slot) (o : Option Slot) → (slot_with s o).key ≡ s.key
  joined_key s None = refl
  joined_key s (Some x) = refl

  merged_key : (one : Slot) (o : Option Slot) → ((s : Slot) → o ≡ Some s → Touched w old new last p key slots s) → one.key ≡ key → (merged o one).key ≡ key
  merged_key one None h e = e
  merged_key one (Some g) h e = sym (h g refl).same_key

  pub slots_taken : Taking w old new last p key slots → (q : PeriodId) → IsJoined w old p new q → (slots' : List (ByStart × Held)) → IsTaken slots p w slots' → AreSlots w new last slots'
  slots_taken t q m slots' r =
      let one = r.one in
      let e : key ≡ one.key = some_is key one.key (sym t.of_key ∙ r.is_one.key) in
      let f = finds w old new last p key slots t slots' r in
      let x = merged r.first one in
      let j = slot_with x r.second in
      let jk : j.key ≡ key = joined_key x r.second ∙ merged_key one r.first f.one (sym e) in
      let s0 = subst (λ (z : PeriodKey). Sums z (λ y. y ≡ p) one) (sym e) (sums_one p one r.is_one) in
      let s1 = sums_merged t (λ y. y ≡ p) one r.first s0 f.one in
      let s2 = sums_found t (FoundOf (λ y. y ≡ p) r.first) x r.second s1 f.other in
      let behind : (z : PeriodId) → IsTouched w old p z → IsAfter last z = λ z c. t.behind z c.is_member.ends.is_end (omega (arith, c.not_far_before, c.is_member.ends.after)) in
      let s3 = sums_same key (FoundMember r.first r.second) (IsMember w new q) j (members_found t r.first r.second f q m behind) s2 in
      let qk : q.key ≡ j.key = some_is q.key j.key (sym m.has_new.of_key ∙ t.of_key ∙ ap Some (sym jk)) in
      let js = joined_slot q j m qk (t.behind_new q m.has_new.ends.after) (subst (λ (z : PeriodKey). Sums z (IsMember w new q) j) (sym jk) s3) in
      are_slots t r.first r.second f j jk slots' r.replaced q m js.0 js.1
