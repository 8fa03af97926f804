-- The orders of the places of health.
use Rattle.std.proofs.Common.{◌≡◌, ℕ, ◌+◌, ◌<◌, ◌≤◌, inl, inr, true, false, ◌∷◌, [], arith, rules}
use Rattle.std.proofs.lemmas.Bool.Decides.{nat_tests}
use Rattle.std.specs.Ordering.{is_lt, is_gt}
use Rattle.std.specs.BTreeMap.{is_at}
use Rattle.std.specs.BTreeMap.Range.{IsLeBy, IsLtBy}
use Rattle.nav_eph.specs.Satellite.{Satellite}
use Rattle.nav_eph.specs.declared.galileo.GalHealth.{GalHealth}
use Rattle.nav_eph.specs.declared.tag.SentTag.{SentTag}
use Rattle.periods.specs.Values.{IsBelow}
use Rattle.slot_assembly.specs.declared.order.BySat.{BySat}
use Rattle.slot_assembly.specs.declared.order.ByStamp.{ByStamp}
use Rattle.slot_assembly.specs.contracts.order.BySatOrd.TheImpl.{cmp-value as sat_cmp}
use Rattle.slot_assembly.specs.contracts.order.ByStampOrd.TheImpl.{cmp-value as stamp_cmp}
use Rattle.slot_assembly.specs.Order.{by_sat, by_stamp, sat_place, place_of_health, is_of_sat}

-- both orders agree on equality of places
pub same_stamp : (p : BySat) (x : ByStamp) → is_at (sat_cmp.it p) (sat_place x) ≡ is_at (stamp_cmp.it (by_stamp p)) x
same_stamp p x = grind (arith, nat_tests)

pub received_is : (x y : BySat) → is_at (sat_cmp.it x) y ≡ true → x ≡ y
received_is x y h = search rules

pub is_heard_own : (x : BySat) → is_at (sat_cmp.it x) x ≡ true
is_heard_own x = search rules

-- what is between two places of a satellite is of the satellite
pub sat_squeezed : (sat : Satellite) (s d t c : ℕ) (x : BySat) → IsLeBy sat_cmp.it (by_sat sat s d) x → IsLeBy sat_cmp.it x (by_sat sat t c) → is_of_sat sat x ≡ true
sat_squeezed sat s d t c x l m = grind (arith, nat_tests)

pub below_next : (sat : Satellite) (s d e : ℕ) → s ≤ e → IsLtBy sat_cmp.it (by_sat sat s d) (by_sat sat (e + 1) 0)
below_next sat s d e l = grind (arith, nat_tests)

pub next_below : (sat : Satellite) (s d e : ℕ) → IsLtBy sat_cmp.it (by_sat sat s d) (by_sat sat (e + 1) 0) → s ≤ e
next_below sat s d e l = grind (arith, nat_tests)

pub next_above : (sat : Satellite) (s d e : ℕ) → e < s → IsLeBy sat_cmp.it (by_sat sat (e + 1) 0) (by_sat sat s d)
next_above sat s d e l = grind (arith, nat_tests)

pub above_next : (sat : Satellite) (s d e : ℕ) → IsLeBy sat_cmp.it (by_sat sat (e + 1) 0) (by_sat sat s d) → e < s
above_next sat s d e l = grind (arith, nat_tests)

pub lt_le : (x y : BySat) → IsLtBy sat_cmp.it x y → IsLeBy sat_cmp.it x y
lt_le x y l = grind (arith, nat_tests)

pub not_lt_le : (x y : BySat) → is_lt (sat_cmp.it x y) ≡ false → IsLeBy sat_cmp.it y x
not_lt_le x y l = grind (arith, nat_tests)

-- of two places of a satellite, one is not after the other
pub le_not_below : (sat : Satellite) (s d t c : ℕ) → IsLeBy sat_cmp.it (by_sat sat s d) (by_sat sat t c) → IsBelow (t ∷ c ∷ []) (s ∷ d ∷ []) → ⊥
le_not_below sat s d t c l (inl m) = grind (arith, nat_tests)
le_not_below sat s d t c l (inr (e, inl m)) = grind (arith, nat_tests)
le_not_below sat s d t c l (inr (e, inr (f, m))) = m

-- the oldest one
pub oldest_first : (x y : ByStamp) → is_gt (stamp_cmp.it x y) ≡ false → x.stamp ≤ y.stamp
oldest_first x y l = grind (arith, nat_tests)

-- a place of a satellite, by stamp and bits
pub sat_same : (sat other : Satellite) (h : ℕ × GalHealth × SentTag) → is_of_sat sat (place_of_health other h) ≡ true → place_of_health other h ≡ place_of_health sat h
sat_same sat other h e = grind (arith, nat_tests)

pub stamps_le : (sat : Satellite) (s d : ℕ) (x : BySat) → IsLeBy sat_cmp.it (by_sat sat s d) x → is_of_sat sat x ≡ true → s ≤ x.stamp
stamps_le sat s d x l o = grind (arith, nat_tests)

pub stamps_ge : (sat : Satellite) (s d : ℕ) (x : BySat) → IsLeBy sat_cmp.it x (by_sat sat s d) → is_of_sat sat x ≡ true → x.stamp ≤ s
stamps_ge sat s d x l o = grind (arith, nat_tests)
