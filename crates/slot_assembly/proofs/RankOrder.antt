-- The orders of places.
use Rattle.std.proofs.Common.{◌≡◌, ℕ, ◌<◌, ◌≤◌, inl, inr, true, false, List, [], ◌∷◌, refl, sym, ap, subst, ◌∙◌, arith, rules}
use Rattle.std.specs.Ordering.{is_gt, is_lt}
use Rattle.std.specs.BTreeMap.{is_at}
use Rattle.std.proofs.lemmas.Bool.Decides.{nat_tests}
use Rattle.std.specs.BTreeMap.Range.{IsLeBy, IsLtBy}
use Rattle.periods.specs.declared.key.PeriodKey.{PeriodKey}
use Rattle.periods.specs.declared.key.PeriodKey.TheVariants.{Gps, Gal, GpsIon, GalIon}
use Rattle.periods.specs.declared.key.PeriodId.{PeriodId}
use Rattle.periods.proofs.Surface.{IsKeyValue, same_place, before_irr}
use Rattle.periods.specs.Periods.{IsBefore, key_numbers}
use Rattle.periods.specs.Values.{IsBelow}
use Rattle.slot_assembly.specs.declared.slot.Slot.{Slot}
use Rattle.slot_assembly.specs.declared.order.Rank.{Rank}
use Rattle.slot_assembly.specs.declared.order.ByStart.{ByStart}
use Rattle.slot_assembly.specs.declared.order.ByEnd.{ByEnd}
use Rattle.slot_assembly.specs.contracts.order.ByStartOrd.TheImpl.{cmp-value as start_cmp}
use Rattle.slot_assembly.specs.contracts.order.ByEndOrd.TheImpl.{cmp-value as end_cmp}
use Rattle.slot_assembly.specs.Order.{by_end, by_start, is_of_rank, rank_of, start_place}
use Rattle.slot_assembly.specs.Slots.{at_of, slot_place}

-- places of one key go by their starts
pub start_below : (r : Rank) (a b : ℕ) → a < b → IsLtBy start_cmp.it (by_start r a) (by_start r b)
start_below r a b l = grind (arith, nat_tests)

pub below_start : (r : Rank) (x : ByStart) (b : ℕ) → IsLtBy start_cmp.it x (by_start r b) → is_of_rank r x ≡ true → x.start < b
below_start r x b l o = grind (arith, nat_tests)

pub of_rank : (r : Rank) (x : ByStart) → is_of_rank r x ≡ true → x ≡ by_start r x.start
of_rank r x o = grind (arith, nat_tests)

pub start_last : (r : Rank) (x : ByStart) (a : ℕ) → is_of_rank r x ≡ true → is_lt (start_cmp.it x (by_start r a)) ≡ false → a ≤ x.start
start_last r x a o l = grind (arith, nat_tests)

-- what lies between two places of a key is of the key
pub squeezed : (r : Rank) (a b : ℕ) (x : ByStart) → is_lt (start_cmp.it x (by_start r a)) ≡ false → IsLtBy start_cmp.it x (by_start r b) → is_of_rank r x ≡ true
squeezed r a b x l m = grind (arith, nat_tests)

-- a place that is found equals the one looked up, and each stored place is found
pub at_is : (x y : ByStart) → is_at (start_cmp.it x) y ≡ true → x ≡ y
at_is x y h = search rules

pub is_at_own : (x : ByStart) → is_at (start_cmp.it x) x ≡ true
is_at_own x = search rules

pub end_is : (x y : ByEnd) → is_at (end_cmp.it x) y ≡ true → x ≡ y
end_is x y h = search rules

pub is_end_own : (x : ByEnd) → is_at (end_cmp.it x) x ≡ true
is_end_own x = search rules

-- a key's numbers are those of its rank
pub numbers_rank : (k : PeriodKey) → key_numbers k ≡ (rank_of k).class ∷ (rank_of k).system ∷ (rank_of k).number ∷ (rank_of k).issue ∷ []
numbers_rank (Gps s i) = refl
numbers_rank (Gal s i) = refl
numbers_rank (GpsIon c) = refl
numbers_rank (GalIon c) = refl

-- a place in the list that is not greater than another, whose ends lag, is not after it
not_below : (r q : Rank) (u v a b d e : ℕ) → d ≤ a → b ≤ e → is_gt (end_cmp.it (by_end (by_start r u) a) (by_end (by_start q v) b)) ≡ false
    → IsBelow (e ∷ q.class ∷ q.system ∷ q.number ∷ q.issue ∷ []) (d ∷ r.class ∷ r.system ∷ r.number ∷ r.issue ∷ []) → ⊥
not_below r q u v a b d e m n h (inl l) = grind (arith, nat_tests)
not_below r q u v a b d e m n h (inr (o, inl l)) = grind (arith, nat_tests)
not_below r q u v a b d e m n h (inr (o, inr (f, inl l))) = grind (arith, nat_tests)
not_below r q u v a b d e m n h (inr (o, inr (f, inr (g, inl l)))) = grind (arith, nat_tests)
not_below r q u v a b d e m n h (inr (o, inr (f, inr (g, inr (i, inl l))))) = grind (arith, nat_tests)
not_below r q u v a b d e m n h (inr (o, inr (f, inr (g, inr (i, inr (j, k)))))) = k

pub not_before : (y : ByEnd) (s t : Slot) (b : ℕ) → start_place y ≡ at_of s → s.end ≤ y.end → b ≤ t.end → IsLeBy end_cmp.it y (by_end (at_of t) b) → IsBefore (slot_place t) (slot_place s) → ⊥
not_before y s t b own m n h l =
    not_below (rank_of s.key) (rank_of t.key) s.start t.start y.end b s.end t.end m n (subst (λ (x : ByStart). IsLeBy end_cmp.it (by_end x y.end) (by_end (at_of t) b)) own h)
    (subst (λ (xs : List ℕ). IsBelow (t.end ∷ xs) (s.end ∷ (rank_of s.key).class ∷ (rank_of s.key).system ∷ (rank_of s.key).number ∷ (rank_of s.key).issue ∷ [])) (numbers_rank t.key)
    (subst (λ (xs : List ℕ). IsBelow (t.end ∷ key_numbers t.key) (s.end ∷ xs)) (numbers_rank s.key) l))

-- keys of the same rank are equal
numbers_same : (a b : PeriodKey) → rank_of a ≡ rank_of b → key_numbers a ≡ key_numbers b
numbers_same a b e = numbers_rank a ∙ ap (λ (r : Rank). r.class ∷ r.system ∷ r.number ∷ r.issue ∷ []) e ∙ sym (numbers_rank b)

abbrev at_none : PeriodKey → PeriodId
at_none k = record { end = 0; key = k }

pub one_rank : (a b : PeriodKey) → IsKeyValue a → IsKeyValue b → rank_of a ≡ rank_of b → a ≡ b
one_rank a b v w e =
    let n = numbers_same a b e in
    ap (λ (q : PeriodId). q.key) (same_place (at_none a) (at_none b) v w
    (λ l. before_irr (at_none b) (subst (λ (xs : List ℕ). IsBelow (0 ∷ xs) (0 ∷ key_numbers b)) n l))
    (λ l. before_irr (at_none b) (subst (λ (xs : List ℕ). IsBelow (0 ∷ key_numbers b) (0 ∷ xs)) n l)))

pub at_rank : (r q : Rank) (a b : ℕ) → by_start r a ≡ by_start q b → (r ≡ q) × (a ≡ b)
at_rank r q a b e = (
  λ i. record { class = (e i).class; system = (e i).system; number = (e i).number; issue = (e i).issue },
  ap (λ (x : ByStart). x.start) e,
)
