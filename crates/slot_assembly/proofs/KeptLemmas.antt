-- The stored health: after a part is taken, after removal, and that it gives the health near an end.
use Rattle.std.proofs.Common.{◌≡◌, ℕ, ◌+◌, ◌*◌, ◌≤◌, ◌⊎◌, inl, inr, Bool, true, false, cond, ◌&&◌, nat_le, if◌then◌else◌, Option, None, Some, IsSome, refl, sym, ap, subst, ◌∙◌, arith}
use Rattle.std.specs.BTreeMap.{is_at}
use Rattle.std.specs.BTreeMap.Range.{IsLeBy, IsLtBy}
use Rattle.std.proofs.lemmas.Bool.{both_ways, cases_lt, and_parts, and_from, leb-true, le-leb}
use Rattle.nav_eph.specs.Satellite.{Satellite}
use Rattle.nav_eph.specs.Numbers.{health_number}
use Rattle.nav_eph.specs.Values.{IsPartValue}
use Rattle.nav_eph.specs.declared.part.Body.{Body}
use Rattle.nav_eph.specs.declared.part.Body.TheVariants.{GalHealth as OfHealth}
use Rattle.nav_eph.specs.declared.part.Part.{Part}
use Rattle.nav_eph.proofs.Surface.{one_health}
use Rattle.periods.specs.declared.key.PeriodKey.{PeriodKey}
use Rattle.periods.specs.declared.key.PeriodKey.TheVariants.{Gps, Gal, GpsIon, GalIon}
use Rattle.periods.specs.Digests.{IsBestHealth}
use Rattle.periods.specs.Parts.{key_in, key_of, HealthOf, Says, HasValue, health_numbers}
use Rattle.periods.specs.Values.{IsBest, IsEarlier, IsLater}
use Rattle.periods.specs.Verdicts.{HasHealth, IsUpToEnd, IsBehindEnd}
use Rattle.periods.proofs.Surface.{some_is, none_some, same_sat-is, HasValue-to, IsHealthValue, health_value, best_health, no_health, IsWithPart}
use Rattle.slot_assembly.specs.declared.order.BySat.{BySat}
use Rattle.slot_assembly.specs.contracts.order.BySatOrd.TheImpl.{cmp-value as sat_cmp}
use Rattle.slot_assembly.specs.Order.{by_sat, place_of_health, is_of_sat}
use Rattle.slot_assembly.specs.Healths.{health_in, received_at, IsSameHealth, IsReceivedChanged, IsStated, IsForgotten, IsLastBelow, IsFirstAbove, near_up, near_behind, IsLooked, IsChosen}
use Rattle.slot_assembly.specs.SlotStanding.{AreKept}
use Rattle.slot_assembly.proofs.SatOrder.{received_is, is_heard_own, sat_squeezed, stamps_le, stamps_ge, below_next, next_below, next_above, above_next, lt_le, not_lt_le, le_not_below}
use Rattle.slot_assembly.proofs.HealthChanges.{Health, ReceivedList}

-- a part of a key has no health
keyed_none : (stamp : ℕ) (sat : Satellite) (body : Body) (key : PeriodKey) (h : Health) → key_in sat body ≡ Some key → health_in stamp body ≡ Some h → ⊥
keyed_none stamp sat (OfHealth x t) key h e f = none_some key e
keyed_none stamp sat _ key h e f = none_some h f

health_part : (sat : Satellite) (p : Part) (h : Health) → Says (HealthOf sat) p h → health_in p.stamp p.body ≡ Some h
health_part sat p h says = λ i. health_in (says.2 i) (says.1 i)

part_health-in : (stamp : ℕ) (sat : Satellite) (body : Body) (h : Health) → health_in stamp body ≡ Some h → Says (HealthOf sat) (record { stamp = stamp; sat = sat; body = body }) h
part_health-in stamp sat (OfHealth x t) h e = let f = some_is (stamp, x, t) h e in (refl, λ i. OfHealth (f i).1 (f i).2, λ i. (f i).0)
part_health-in stamp sat _ h e = absurd (none_some h e)

part_health : (p : Part) (h : Health) → health_in p.stamp p.body ≡ Some h → Says (HealthOf p.sat) p h
part_health p h e = part_health-in p.stamp p.sat p.body h e

value_was : (old new : Part → Type 0) (p : Part) (sat : Satellite) (v : Health) → IsWithPart old new p → HasValue (HealthOf sat) new v
    → HasValue (HealthOf sat) old v ⊎ ((p.sat ≡ sat) × (health_in p.stamp p.body ≡ Some v))
value_was old new p sat v m h = elim (m.only h.part h.here) [
  | inl o ↦ inl (record { part = h.part; here = o; says = h.says })
  | inr e ↦ let said = subst (λ (q : Part). Says (HealthOf sat) q v) (sym e) h.says in inr (said.0, health_part sat p v said)
]

-- a part without health
kept_none : (w n : ℕ) (old new : Part → Type 0) (p : Part) (heard heard' : ReceivedList) → IsWithPart old new p → ((h : Health) → health_in p.stamp p.body ≡ Some h → ⊥) → IsSameHealth heard heard'
    → AreKept w n old heard → AreKept w n new heard'
kept_none w n old new p heard heard' m none same k = record {
  was_received = λ x h i. let f = k.was_received x h (sym (same x) ∙ i) in (f.0, HasValue-to (HealthOf f.0) old new h m.keeps f.1, f.2);
  recent = λ x i. k.recent x (subst IsSome (same x) i);
  every = λ sat h v l. same (place_of_health sat h) ∙ k.every sat h (elim (value_was old new p sat h m v) [ inl o ↦ o | inr e ↦ absurd (none h e.1) ]) l;
}

pub kept_keyed : (w n : ℕ) (old new : Part → Type 0) (p : Part) (key : PeriodKey) (heard : ReceivedList) → IsWithPart old new p → key_of p ≡ Some key → AreKept w n old heard → AreKept w n new heard
kept_keyed w n old new p key heard m e k = kept_none w n old new p heard heard m (λ h f. keyed_none p.stamp p.sat p.body key h e f) (λ x. refl) k

-- two healths at one place are equal
one_at : (s t : Satellite) (h v : Health) → IsHealthValue h → IsHealthValue v → place_of_health s h ≡ place_of_health t v → h ≡ v
one_at s t h v a b e =
    let d = one_health h.1 v.1 h.2 v.2 a.health b.health a.tag b.tag (ap (λ (x : BySat). x.bit_pattern) e) in
    let f = ap (λ (x : BySat). x.stamp) e in
    λ i. (f i, d.0 i, d.1 i)

at_one : (b : Bool) (o n : Option Health) (h v : Health) → n ≡ cond b (Some h) o → (b ≡ true → h ≡ v) → (b ≡ false → o ≡ Some v) → n ≡ Some v
at_one true o n h v e same was = e ∙ ap Some (same refl)
at_one false o n h v e same was = e ∙ was refl

kept_some : (w n : ℕ) (old new : Part → Type 0) (p : Part) (h : Health) (heard heard' : ReceivedList) → IsWithPart old new p → ((q : Part) → new q → IsPartValue q) → health_in p.stamp p.body ≡ Some h → n ≤ p.stamp
    → IsReceivedChanged heard (place_of_health p.sat h) (Some h) heard' → AreKept w n old heard → AreKept w n new heard'
kept_some w n old new p h heard heard' m values said l c k =
    let place = place_of_health p.sat h in
    let own : HasValue (HealthOf p.sat) new h = record { part = p; here = m.has; says = part_health p h said } in
    let stamp = own.says.2 in
    record {
      was_received = λ x v i. heard_by x v i (is_at (sat_cmp.it place) x) refl;
      recent = λ x i. recent_by x i (is_at (sat_cmp.it place) x) refl;
      every = λ sat v u g. at_one (is_at (sat_cmp.it place) (place_of_health sat v)) (received_at heard (place_of_health sat v)) (received_at heard' (place_of_health sat v)) h v (c (place_of_health sat v))
          (λ e. one_at p.sat sat h v (health_value p.sat p h (values p m.has) own.says) (health_value sat u.part v (values u.part u.here) u.says) (received_is place (place_of_health sat v) e))
          (λ e. elim (value_was old new p sat v m u) [
            | inl o ↦ k.every sat v o g
            | inr f ↦ absurd (both_ways (is_at (sat_cmp.it place) (place_of_health sat v)) e
                (subst (λ (y : BySat). is_at (sat_cmp.it place) y ≡ true) ((λ i. place_of_health (f.0 i) (some_is h v (sym said ∙ f.1) i))) (is_heard_own place)))
          ]);
    }
  where
    heard_by : (x : BySat) (v : Health) → received_at heard' x ≡ Some v → (b : Bool) → is_at (sat_cmp.it (place_of_health p.sat h)) x ≡ b → (sat : Satellite) × HasValue (HealthOf sat) new v × (x ≡ place_of_health sat v)
    heard_by x v i true e =
        let same : h ≡ v = some_is h v (sym (c x ∙ ap (λ (b : Bool). cond b (Some h) (received_at heard x)) e) ∙ i) in (
          p.sat,
          record { part = p; here = m.has; says = part_health p v (said ∙ ap Some same) },
          sym (received_is (place_of_health p.sat h) x e) ∙ ap (place_of_health p.sat) same,
        )
    heard_by x v i false e =
        let f = k.was_received x v (sym (c x ∙ ap (λ (b : Bool). cond b (Some h) (received_at heard x)) e) ∙ i) in
        (f.0, HasValue-to (HealthOf f.0) old new v m.keeps f.1, f.2)

    recent_by : (x : BySat) → IsSome (received_at heard' x) → (b : Bool) → is_at (sat_cmp.it (place_of_health p.sat h)) x ≡ b → n ≤ x.stamp + 2 * w
    recent_by x i true e = omega (arith, ap (λ (y : BySat). y.stamp) (received_is (place_of_health p.sat h) x e), (part_health p h said).2)
    recent_by x i false e = k.recent x (subst IsSome (c x ∙ ap (λ (b : Bool). cond b (Some h) (received_at heard x)) e) i)

pub kept_said : (w n : ℕ) (old new : Part → Type 0) (p : Part) (o : Option Health) (heard heard' : ReceivedList) → health_in p.stamp p.body ≡ o → IsWithPart old new p → ((q : Part) → new q → IsPartValue q) → n ≤ p.stamp
    → IsStated heard p.sat o heard' → AreKept w n old heard → AreKept w n new heard'
kept_said w n old new p None heard heard' e m values l same k = kept_none w n old new p heard heard' m (λ h f. none_some h (sym e ∙ f)) same k
kept_said w n old new p (Some h) heard heard' e m values l c k = kept_some w n old new p h heard heard' m values e l c k

-- removal of old health
pub kept_forgotten : (w n watermark : ℕ) (parts : Part → Type 0) (heard heard' : ReceivedList) → n ≤ watermark → IsForgotten w watermark heard heard' → AreKept w n parts heard → AreKept w watermark parts heard'
kept_forgotten w n watermark parts heard heard' l f k =
    let near : (x : BySat) → IsSome (received_at heard' x) → watermark ≤ x.stamp + 2 * w = λ x i. elim (cases_lt (x.stamp + 2 * w) watermark) [
      | inl low ↦ absurd (both_ways false refl (subst IsSome (f.gone x low) i))
      | inr high ↦ high
    ] in
    record {
      was_received = λ x h i. k.was_received x h (sym (f.stays x (near x (subst IsSome (sym i) refl))) ∙ i);
      recent = near;
      every = λ sat h v g. f.stays (place_of_health sat h) g ∙ k.every sat h v (omega arith);
    }

-- what is found below an end is the last health up to it
module _ (w n : ℕ) (parts : Part → Type 0) (heard : ReceivedList) (sat : Satellite) (issue e : ℕ) where
  there_up : AreKept w n parts heard → n ≤ e + w → (v : Health) → IsUpToEnd w parts (Gal sat issue) e v → received_at heard (place_of_health sat v) ≡ Some v
  there_up k l v u = k.every sat v u.heard (omega (arith, u.near))

  there_behind : AreKept w n parts heard → n ≤ e + w → (v : Health) → IsBehindEnd w parts (Gal sat issue) e v → received_at heard (place_of_health sat v) ≡ Some v
  there_behind k l v u = k.every sat v u.heard (omega (arith, u.behind))

  some_there : (v : Health) → received_at heard (place_of_health sat v) ≡ Some v → IsSome (received_at heard (place_of_health sat v))
  some_there v i = subst IsSome (sym i) refl

  -- the health at a place of the satellite
  at_sat : AreKept w n parts heard → (x : BySat) (h : Health) → received_at heard x ≡ Some h → is_of_sat sat x ≡ true → HasValue (HealthOf sat) parts h × (x ≡ place_of_health sat h)
  at_sat k x h i o =
      let f = k.was_received x h i in
      let same : f.0 ≡ sat = same_sat-is f.0 sat (subst (λ (y : BySat). is_of_sat sat y ≡ true) f.2 o) in
      (subst (λ (t : Satellite). HasValue (HealthOf t) parts h) same f.1, f.2 ∙ ap (λ (t : Satellite). place_of_health t h) same)

  stamp_of_place : AreKept w n parts heard → (x : BySat) (h : Health) → received_at heard x ≡ Some h → x.stamp ≡ h.0
  stamp_of_place k x h i = ap (λ (y : BySat). y.stamp) (k.was_received x h i).2

  up_by : AreKept w n parts heard → n ≤ e + w → (x : BySat × Health) → IsLastBelow heard (by_sat sat (e + 1) 0) (Some x) → (t : Bool) → is_of_sat sat x.0 && nat_le e (x.1.0 + w) ≡ t
      → IsBest (IsLater health_numbers) (IsUpToEnd w parts (Gal sat issue) e) (if t then Some x.1 else None)
  up_by k l x h true o =
      let a = and_parts (is_of_sat sat x.0) (nat_le e (x.1.0 + w)) o in
      let f = at_sat k x.0 x.1 h.0 a.0 in
      record {
        here = record {
          heard = f.0;
          by_end = next_below sat x.1.0 (health_number x.1.1 x.1.2) e (subst (λ (y : BySat). IsLtBy sat_cmp.it y (by_sat sat (e + 1) 0)) f.1 h.1);
          near = leb-true e (x.1.0 + w) a.1;
        };
        first = λ v u later.
            let i = there_up k l v u in
            let le = not_lt_le x.0 (place_of_health sat v) (h.2 (place_of_health sat v) (below_next sat v.0 (health_number v.1 v.2) e u.by_end) (some_there v i)) in
            le_not_below sat v.0 (health_number v.1 v.2) x.1.0 (health_number x.1.1 x.1.2) (subst (λ (y : BySat). IsLeBy sat_cmp.it (place_of_health sat v) y) f.1 le) later;
      }
  up_by k l x h false o = λ v u.
      let i = there_up k l v u in
      let le = not_lt_le x.0 (place_of_health sat v) (h.2 (place_of_health sat v) (below_next sat v.0 (health_number v.1 v.2) e u.by_end) (some_there v i)) in
      let of = sat_squeezed sat v.0 (health_number v.1 v.2) (e + 1) 0 x.0 le (lt_le x.0 (by_sat sat (e + 1) 0) h.1) in
      let up = stamps_le sat v.0 (health_number v.1 v.2) x.0 le of in
      both_ways (is_of_sat sat x.0 && nat_le e (x.1.0 + w)) o (and_from (is_of_sat sat x.0) (nat_le e (x.1.0 + w)) of (le-leb e (x.1.0 + w) (omega (arith, u.near, up, stamp_of_place k x.0 x.1 h.0))))

  up_is : AreKept w n parts heard → n ≤ e + w → (o : Option (BySat × Health)) → IsLastBelow heard (by_sat sat (e + 1) 0) o → IsBest (IsLater health_numbers) (IsUpToEnd w parts (Gal sat issue) e) (near_up sat w e o)
  up_is k l None h = λ v u. h (place_of_health sat v) (below_next sat v.0 (health_number v.1 v.2) e u.by_end) (some_there v (there_up k l v u))
  up_is k l (Some x) h = up_by k l x h (is_of_sat sat x.0 && nat_le e (x.1.0 + w)) refl

  behind_by : AreKept w n parts heard → n ≤ e + w → (x : BySat × Health) → IsFirstAbove heard (by_sat sat (e + 1) 0) (Some x) → (t : Bool) → is_of_sat sat x.0 && nat_le x.1.0 (e + w) ≡ t
      → IsBest (IsEarlier health_numbers) (IsBehindEnd w parts (Gal sat issue) e) (if t then Some x.1 else None)
  behind_by k l x h true o =
      let a = and_parts (is_of_sat sat x.0) (nat_le x.1.0 (e + w)) o in
      let f = at_sat k x.0 x.1 h.0 a.0 in
      record {
        here = record {
          heard = f.0;
          behind = above_next sat x.1.0 (health_number x.1.1 x.1.2) e (subst (λ (y : BySat). IsLeBy sat_cmp.it (by_sat sat (e + 1) 0) y) f.1 h.1);
          near = leb-true x.1.0 (e + w) a.1;
        };
        first = λ v u sooner.
            let i = there_behind k l v u in
            let le = h.2 (place_of_health sat v) (next_above sat v.0 (health_number v.1 v.2) e u.behind) (some_there v i) in
            le_not_below sat x.1.0 (health_number x.1.1 x.1.2) v.0 (health_number v.1 v.2) (subst (λ (y : BySat). IsLeBy sat_cmp.it y (place_of_health sat v)) f.1 le) sooner;
      }
  behind_by k l x h false o = λ v u.
      let i = there_behind k l v u in
      let le = h.2 (place_of_health sat v) (next_above sat v.0 (health_number v.1 v.2) e u.behind) (some_there v i) in
      let of = sat_squeezed sat (e + 1) 0 v.0 (health_number v.1 v.2) x.0 h.1 le in
      let up = stamps_ge sat v.0 (health_number v.1 v.2) x.0 le of in
      both_ways (is_of_sat sat x.0 && nat_le x.1.0 (e + w)) o (and_from (is_of_sat sat x.0) (nat_le x.1.0 (e + w)) of (le-leb x.1.0 (e + w) (omega (arith, u.near, up, stamp_of_place k x.0 x.1 h.0))))

  behind_is : AreKept w n parts heard → n ≤ e + w → (o : Option (BySat × Health)) → IsFirstAbove heard (by_sat sat (e + 1) 0) o → IsBest (IsEarlier health_numbers) (IsBehindEnd w parts (Gal sat issue) e) (near_behind sat w e o)
  behind_is k l None h = λ v u. h (place_of_health sat v) (next_above sat v.0 (health_number v.1 v.2) e u.behind) (some_there v (there_behind k l v u))
  behind_is k l (Some x) h = behind_by k l x h (is_of_sat sat x.0 && nat_le x.1.0 (e + w)) refl

  looked_best : AreKept w n parts heard → n ≤ e + w → (result : Option Health) → IsLooked heard sat w e result → IsBestHealth (IsUpToEnd w parts (Gal sat issue) e) (IsBehindEnd w parts (Gal sat issue) e) result
  looked_best k l result h =
      subst (IsBestHealth (IsUpToEnd w parts (Gal sat issue) e) (IsBehindEnd w parts (Gal sat issue) e)) (sym h.is)
      (best_health (IsUpToEnd w parts (Gal sat issue) e) (IsBehindEnd w parts (Gal sat issue) e) (near_up sat w e h.below) (near_behind sat w e h.above) (up_is k l h.below h.is_below) (behind_is k l h.above h.is_above))

-- the stored health gives the health that a period takes
none_chosen : (w : ℕ) (parts : Part → Type 0) (key : PeriodKey) (e : ℕ) (result : Option Health) → ((h : Health) → HasHealth key parts h → ⊥) → result ≡ None
    → IsBestHealth (IsUpToEnd w parts key e) (IsBehindEnd w parts key e) result
none_chosen w parts key e result none h = subst (IsBestHealth (IsUpToEnd w parts key e) (IsBehindEnd w parts key e)) (sym h) (no_health w parts key e none)

pub chosen_best : (w n : ℕ) (parts : Part → Type 0) (heard : ReceivedList) (key : PeriodKey) (e : ℕ) (result : Option Health) → AreKept w n parts heard → n ≤ e + w → IsChosen heard w key e result
    → IsBestHealth (IsUpToEnd w parts key e) (IsBehindEnd w parts key e) result
chosen_best w n parts heard (Gal sat i) e result k l h = looked_best w n parts heard sat i e k l result h
chosen_best w n parts heard (Gps sat i) e result k l h = none_chosen w parts (Gps sat i) e result (λ x y. y) h
chosen_best w n parts heard (GpsIon c) e result k l h = none_chosen w parts (GpsIon c) e result (λ x y. y) h
chosen_best w n parts heard (GalIon c) e result k l h = none_chosen w parts (GalIon c) e result (λ x y. y) h
