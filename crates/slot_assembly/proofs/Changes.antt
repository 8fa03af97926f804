-- The stored slots after a change, and that the list of ends stays consistent.
use Rattle.std.proofs.Common.{◌≡◌, ℕ, ◌<◌, ◌⊎◌, inl, inr, Bool, true, false, cond, List, Option, None, Some, IsSome, IsTrue, refl, sym, ap, subst, arith, ◌∙◌}
use Rattle.std.specs.List.{list_any}
use Rattle.std.specs.BTreeMap.{is_at}
use Rattle.std.specs.Map.{lookup}
use Rattle.std.specs.Option.{option_map}
use Rattle.std.proofs.lemmas.Bool.{both_ways}
use Rattle.slot_assembly.specs.declared.order.ByStart.{ByStart}
use Rattle.slot_assembly.specs.declared.order.ByEnd.{ByEnd}
use Rattle.slot_assembly.specs.declared.slot.Slot.{Slot}
use Rattle.slot_assembly.specs.declared.slot.Held.{Held}
use Rattle.slot_assembly.specs.contracts.order.ByStartOrd.TheImpl.{cmp-value as start_cmp}
use Rattle.slot_assembly.specs.contracts.order.ByEndOrd.TheImpl.{cmp-value as end_cmp}
use Rattle.slot_assembly.specs.Order.{by_end, start_place}
use Rattle.slot_assembly.specs.Slots.{kept_at, listed_at, slot_of, at_of, HasEnd, IsListed, AreIndexed, AreSameSlots, IsChanged, IsRelisted}
use Rattle.slot_assembly.specs.Joins.{IsUnlisted}
use Rattle.periods.proofs.Surface.{some_is, none_some}
use Rattle.slot_assembly.proofs.RankOrder.{at_is, end_is, is_at_own, is_end_own}

abbrev SlotList : Type 0
SlotList = List (ByStart × Held)

-- the list has one place more, or one less
abbrev pub Adds : List ByEnd → ByEnd → List ByEnd → Type 0
Adds ends y ends' = (k : ByEnd) → list_any (is_at (end_cmp.it k)) ends' ≡ cond (is_at (end_cmp.it y) k) true (list_any (is_at (end_cmp.it k)) ends)

abbrev pub Drops : List ByEnd → ByEnd → List ByEnd → Type 0
Drops ends y ends' = (k : ByEnd) → list_any (is_at (end_cmp.it k)) ends' ≡ cond (is_at (end_cmp.it y) k) false (list_any (is_at (end_cmp.it k)) ends)

-- the stored slots, and the ends by which they are listed, where one place of the map is changed
told : {X : Type 0} (f : Held → X) (b : Bool) (n w o : Option Held) → n ≡ cond b w o → option_map f n ≡ cond b (option_map f w) (option_map f o)
told f true n w o e = ap (option_map f) e
told f false n w o e = ap (option_map f) e

abbrev pub Updates : SlotList → ByStart → Option Held → SlotList → Type 0
Updates old x w new = (q : ByStart) → lookup (is_at (start_cmp.it q)) new ≡ cond (is_at (start_cmp.it x) q) w (lookup (is_at (start_cmp.it q)) old)

pub packed_changed : (old new : SlotList) (x : ByStart) (w : Option Held) → Updates old x w new → IsChanged old x (option_map (λ h. slot_of h.packed) w) new
packed_changed old new x w e = λ q. told (λ h. slot_of h.packed) (is_at (start_cmp.it x) q) (lookup (is_at (start_cmp.it q)) new) w (lookup (is_at (start_cmp.it q)) old) (e q)

pub relisted : (old new : SlotList) (x : ByStart) (w : Option Held) → Updates old x w new → IsRelisted old x (option_map (λ h. h.listed) w) new
relisted old new x w e = λ q. told (λ h. h.listed) (is_at (start_cmp.it x) q) (lookup (is_at (start_cmp.it q)) new) w (lookup (is_at (start_cmp.it q)) old) (e q)

pub packed_some : (o : Option Held) → IsSome (option_map (λ h. slot_of h.packed) o) → IsSome o
packed_some None h = h
packed_some (Some p) h = h

-- what is stored after a removal was stored before
some_left : {X : Type 0} (b : Bool) (n o : Option X) (x : X) → n ≡ cond b None o → n ≡ Some x → (b ≡ false) × (o ≡ Some x)
some_left true n o x e h = absurd (let z : None ≡ Some x = sym e ∙ h in cc)
some_left false n o x e h = (refl, sym e ∙ h)

true_rest : (b n o : Bool) → n ≡ cond b false o → b ≡ false → IsTrue o → IsTrue n
true_rest true n o e f h = absurd (both_ways true f refl)
true_rest false n o e f h = subst IsTrue (sym e) h

-- what is stored after an insertion is that, or was stored before
pub put_own : {X : Type 0} (P : X → Type 0) (b : Bool) (n o : Option X) (h v : X) → n ≡ cond b (Some h) o → (b ≡ true → P h) → (o ≡ Some v → P v) → n ≡ Some v → P v
put_own P true n o h v e put was k = subst P (some_is h v (sym e ∙ k)) (put refl)
put_own P false n o h v e put was k = was (sym e ∙ k)

pub put_some : {X : Type 0} (b : Bool) (s t : Bool) (n o : Option X) (h : X) → s ≡ cond b true t → n ≡ cond b (Some h) o → (IsTrue t → IsSome o) → IsTrue s → IsSome n
put_some true s t n o h e f was k = subst IsSome (sym f) refl
put_some false s t n o h e f was k = subst IsSome (sym f) (was (subst IsTrue e k))

pub put_true : {X : Type 0} (b : Bool) (s t : Bool) (n o : Option X) (h : X) → s ≡ cond b true t → n ≡ cond b (Some h) o → (IsSome o → IsTrue t) → IsSome n → IsTrue s
put_true true s t n o h e f was k = e
put_true false s t n o h e f was k = subst IsTrue (sym e) (was (subst IsSome f k))

pub left_open : (old new : List (ByStart × Held)) (x q : ByStart) (s : Slot) → IsChanged old x None new → kept_at new q ≡ Some s → (is_at (start_cmp.it x) q ≡ false) × (kept_at old q ≡ Some s)
left_open old new x q s c h = some_left (is_at (start_cmp.it x) q) (kept_at new q) (kept_at old q) s (c q) h

true_more : (b n o : Bool) → n ≡ cond b true o → IsTrue o → IsTrue n
true_more true n o e h = e
true_more false n o e h = e ∙ h

true_left : (b n o : Bool) → n ≡ cond b false o → IsTrue n → (b ≡ false) × IsTrue o
true_left true n o e h = absurd (both_ways false refl (subst IsTrue e h))
true_left false n o e h = (refl, subst IsTrue e h)

true_cases : (b n o : Bool) → n ≡ cond b true o → IsTrue n → (b ≡ true) ⊎ IsTrue o
true_cases true n o e h = inl refl
true_cases false n o e h = inr (subst IsTrue e h)

-- a place that is left was there and is another; one that is there after an addition is that or was there
pub has_left : (ends ends' : List ByEnd) (y z : ByEnd) → Drops ends y ends' → HasEnd ends' z → (y ≡ z → ⊥) × HasEnd ends z
has_left ends ends' y z d h =
    let l = true_left (is_at (end_cmp.it y) z) (list_any (is_at (end_cmp.it z)) ends') (list_any (is_at (end_cmp.it z)) ends) (d z) h in
    (λ e. both_ways (is_at (end_cmp.it y) z) l.0 (subst (λ (x : ByEnd). is_at (end_cmp.it y) x ≡ true) e (is_end_own y)), l.1)

pub has_was : (ends ends' : List ByEnd) (y z : ByEnd) → Adds ends y ends' → HasEnd ends' z → (y ≡ z) ⊎ HasEnd ends z
has_was ends ends' y z d h = elim (true_cases (is_at (end_cmp.it y) z) (list_any (is_at (end_cmp.it z)) ends') (list_any (is_at (end_cmp.it z)) ends) (d z) h) [
  | inl e ↦ inl (end_is y z e)
  | inr o ↦ inr o
]

-- a place stays, where it is another than that which goes
pub has_stays : (ends ends' : List ByEnd) (y z : ByEnd) → Drops ends y ends' → HasEnd ends z → (y ≡ z → ⊥) → HasEnd ends' z
has_stays ends ends' y z d h n = by (is_at (end_cmp.it y) z) refl
  where
    by : (b : Bool) → is_at (end_cmp.it y) z ≡ b → HasEnd ends' z
    by true e = absurd (n (end_is y z e))
    by false e = true_rest (is_at (end_cmp.it y) z) (list_any (is_at (end_cmp.it z)) ends') (list_any (is_at (end_cmp.it z)) ends) (d z) e h

pub has_added : (ends ends' : List ByEnd) (y : ByEnd) → Adds ends y ends' → HasEnd ends' y
has_added ends ends' y d = d y ∙ ap (λ (b : Bool). cond b true (list_any (is_at (end_cmp.it y)) ends)) (is_end_own y)

pub has_more : (ends ends' : List ByEnd) (y z : ByEnd) → Adds ends y ends' → HasEnd ends z → HasEnd ends' z
has_more ends ends' y z d h = true_more (is_at (end_cmp.it y) z) (list_any (is_at (end_cmp.it z)) ends') (list_any (is_at (end_cmp.it z)) ends) (d z) h

-- the list serves the slots after one is put or changed, where it is listed by the end e and by no other
module _ (slots slots' : SlotList) (ends ends' : List ByEnd) (x : ByStart) (e : ℕ) (h : AreIndexed slots ends) (c : IsRelisted slots x (Some e) slots') where
  -- each place in the list has its slot
  by_place : (y : ByEnd) → (b : Bool) → is_at (start_cmp.it x) (start_place y) ≡ b → (y ≡ by_end x e) ⊎ HasEnd ends y → (start_place y ≡ x → listed_at slots x ≡ Some y.end → y.end ≡ e) → listed_at slots' (start_place y) ≡ Some y.end
  by_place y true k (inl m) old = c (start_place y) ∙ ap (λ (b : Bool). cond b (Some e) (listed_at slots (start_place y))) k ∙ ap Some (sym (ap (λ (z : ByEnd). z.end) m))
  by_place y true k (inr m) old =
      let at : x ≡ start_place y = at_is x (start_place y) k in
      let was : listed_at slots x ≡ Some y.end = ap (listed_at slots) at ∙ h.has y m in
      c (start_place y) ∙ ap (λ (b : Bool). cond b (Some e) (listed_at slots (start_place y))) k ∙ ap Some (sym (old (sym at) was))
  by_place y false k (inl m) old =
      absurd (both_ways (is_at (start_cmp.it x) (start_place y)) k (subst (λ (z : ByStart). is_at (start_cmp.it x) z ≡ true) (ap start_place (sym m)) (is_at_own x)))
  by_place y false k (inr m) old = c (start_place y) ∙ ap (λ (b : Bool). cond b (Some e) (listed_at slots (start_place y))) k ∙ h.has y m

  pub has_put : ((y : ByEnd) → HasEnd ends' y → ((y ≡ by_end x e) ⊎ HasEnd ends y) × (start_place y ≡ x → listed_at slots x ≡ Some y.end → y.end ≡ e)) → (y : ByEnd) → HasEnd ends' y → listed_at slots' (start_place y) ≡ Some y.end
  has_put only y m = let o = only y m in by_place y (is_at (start_cmp.it x) (start_place y)) refl o.0 o.1

-- the end of a slot at another place stays in the list
pub listed_stays : (ends ends' : List ByEnd) (x : ByStart) (end : ℕ) → ((y : ByEnd) → HasEnd ends y → (start_place y ≡ x) → HasEnd ends' y) → IsListed ends x end → IsListed ends' x end
listed_stays ends ends' x end keeps l = record { e = l.e; by = l.by; has = keeps (by_end x l.e) l.has refl }

-- two places
pub other_place : (x q : ByStart) → is_at (start_cmp.it x) q ≡ false → x ≡ q → ⊥
other_place x q k e = both_ways (is_at (start_cmp.it x) q) k (subst (λ (z : ByStart). is_at (start_cmp.it x) z ≡ true) e (is_at_own x))

-- a slot put or changed, with an end that is listed; the ends of other places stay
pub indexed_put : (slots slots' : SlotList) (ends ends' : List ByEnd) (s : Slot) → AreIndexed slots ends → IsChanged slots (at_of s) (Some s) slots' → IsListed ends' (at_of s) s.end
    → ((y : ByEnd) → HasEnd ends y → (at_of s ≡ start_place y → ⊥) → HasEnd ends' y) → ((y : ByEnd) → HasEnd ends' y → listed_at slots' (start_place y) ≡ Some y.end) → AreIndexed slots' ends'
indexed_put slots slots' ends ends' s h c l keeps has = record {
  own = λ x v k. put_own (λ (t : Slot). x ≡ at_of t) (is_at (start_cmp.it (at_of s)) x) (kept_at slots' x) (kept_at slots x) s v (c x) (λ e. sym (at_is (at_of s) x e)) (h.own x v) k;
  listed = λ x v k. by x v k (is_at (start_cmp.it (at_of s)) x) refl;
  has = has;
}
  where
    by : (x : ByStart) (v : Slot) → kept_at slots' x ≡ Some v → (b : Bool) → is_at (start_cmp.it (at_of s)) x ≡ b → IsListed ends' x v.end
    by x v k true e =
        let same : s ≡ v = some_is s v (sym (c x ∙ ap (λ (b : Bool). cond b (Some s) (kept_at slots x)) e) ∙ k) in
        subst (λ (t : Slot). IsListed ends' x t.end) same (subst (λ (y : ByStart). IsListed ends' y s.end) (at_is (at_of s) x e) l)
    by x v k false e =
        let was = sym (c x ∙ ap (λ (b : Bool). cond b (Some s) (kept_at slots x)) e) ∙ k in
        listed_stays ends ends' x v.end (λ y m at. keeps y m (λ n. other_place (at_of s) x e (n ∙ at))) (h.listed x v was)

-- a slot that is gone, with its end
pub indexed_drop : (slots slots' : SlotList) (ends ends' : List ByEnd) (x : ByStart) → AreIndexed slots ends → IsChanged slots x None slots' → IsRelisted slots x None slots'
    → IsUnlisted ends x (listed_at slots x) None ends' → AreIndexed slots' ends'
indexed_drop slots slots' ends ends' x h c r u = record {
  own = λ q s k. h.own q s (left_open slots slots' x q s c k).1;
  listed = λ q s k.
      let l = left_open slots slots' x q s c k in
      listed_stays ends ends' q s.end (λ y m at. u.keeps y m (λ e w n. absurd (other_place x q l.0 (sym (ap start_place n) ∙ at)))) (h.listed q s l.1);
  has = λ y m. by y m (is_at (start_cmp.it x) (start_place y)) refl;
}
  where
    by : (y : ByEnd) → HasEnd ends' y → (b : Bool) → is_at (start_cmp.it x) (start_place y) ≡ b → listed_at slots' (start_place y) ≡ Some y.end
    by y m true k =
        let o = u.only y m in
        let at = at_is x (start_place y) k in
        absurd (none_some y.end (o.1 y.end (ap (listed_at slots) at ∙ h.has y o.0) (ap (λ (z : ByStart). by_end z y.end) (sym at))))
    by y m false k = r (start_place y) ∙ ap (λ (b : Bool). cond b None (listed_at slots (start_place y))) k ∙ h.has y (u.only y m).0

-- an end that was added and taken back, of a place with no slot
pub indexed_back : (slots : SlotList) (ends mid ends' : List ByEnd) (y : ByEnd) → AreIndexed slots ends → Adds ends y mid → Drops mid y ends' → listed_at slots (start_place y) ≡ None → AreIndexed slots ends'
indexed_back slots ends mid ends' y h a d none = record {
  own = h.own;
  listed = λ x s k.
      listed_stays ends ends' x s.end (λ z m at. has_stays mid ends' y z d (has_more ends mid y z a m) (λ e. none_some z.end (sym none ∙ ap (λ (q : ByEnd). listed_at slots (start_place q)) e ∙ h.has z m)))
      (h.listed x s k);
  has = λ z m. let l = has_left mid ends' y z d m in elim (has_was ends mid y z a l.1) [ inl e ↦ absurd (l.0 e) | inr o ↦ h.has z o ];
}

-- an end that is moved on to that of its slot
pub indexed_moved : (slots slots' : SlotList) (ends mid ends' : List ByEnd) (y : ByEnd) (end : ℕ) → AreIndexed slots ends → HasEnd ends y → y.end < end → option_map (λ (s : Slot). s.end) (kept_at slots (start_place y)) ≡ Some end
    → Adds ends (by_end (start_place y) end) mid → Drops mid y ends' → AreSameSlots slots slots' → IsRelisted slots (start_place y) (Some end) slots' → AreIndexed slots' ends'
indexed_moved slots slots' ends mid ends' y end h there later slot a d same r = record {
  own = λ q s k. h.own q s (sym (same q) ∙ k);
  listed = λ q s k. by q s (sym (same q) ∙ k) (is_at (start_cmp.it (start_place y)) q) refl;
  has = has_put slots slots' ends ends' (start_place y) end h r (λ z m.
      let l = has_left mid ends' y z d m in (
        elim (has_was ends mid (by_end (start_place y) end) z a l.1) [ inl e ↦ inl (sym e) | inr o ↦ inr o ],
        λ at w.
            let same_end : y.end ≡ z.end = some_is y.end z.end (sym (h.has y there) ∙ w) in
            absurd (l.0 (ap (by_end (start_place y)) same_end ∙ ap (λ (p : ByStart). by_end p z.end) (sym at))),
      ));
}
  where
    by : (q : ByStart) (s : Slot) → kept_at slots q ≡ Some s → (b : Bool) → is_at (start_cmp.it (start_place y)) q ≡ b → IsListed ends' q s.end
    by q s k true e =
        let at = at_is (start_place y) q e in
        let is : end ≡ s.end = some_is end s.end (sym slot ∙ ap (option_map (λ (t : Slot). t.end)) (ap (kept_at slots) at ∙ k)) in
        record {
          e = end;
          by = omega (arith, is);
          has = subst (λ (p : ByStart). HasEnd ends' (by_end p end)) at (has_stays mid ends' y (by_end (start_place y) end) d (has_added ends mid (by_end (start_place y) end) a) (λ n. omega (arith, later, ap (λ (z : ByEnd). z.end) n)));
        }
    by q s k false e =
        listed_stays ends ends' q s.end (λ z m at. has_stays mid ends' y z d (has_more ends mid (by_end (start_place y) end) z a m) (λ n. other_place (start_place y) q e (ap start_place n ∙ at))) (h.listed q s k)
