-- The stored health, without duplicates, and its changes.
use Rattle.std.specs.Prelude.{◌≡◌, ℕ, ◌+◌, ◌*◌, ◌<◌, ◌≤◌, false, cond, ◌&&◌, nat_le, if◌then◌else◌, List, Option, None, Some, IsSome, IsTrue}
use Rattle.std.specs.List.{list_any}
use Rattle.std.specs.List.Sorted.{IsStrictlySortedBy}
use Rattle.std.specs.Ordering.{is_lt}
use Rattle.std.specs.BTreeMap.{is_at}
use Rattle.std.specs.BTreeMap.Range.{IsLeBy, IsLtBy}
use Rattle.std.specs.Map.{keys_of, lookup}
use Rattle.nav_eph.specs.Satellite.{Satellite}
use Rattle.nav_eph.specs.declared.galileo.GalHealth.{GalHealth}
use Rattle.nav_eph.specs.declared.tag.SentTag.{SentTag}
use Rattle.nav_eph.specs.declared.part.Part.{Part}
use Rattle.nav_eph.specs.declared.part.Body.{Body}
use Rattle.nav_eph.specs.declared.part.Body.TheVariants.{GalHealth as OfHealth}
use Rattle.periods.specs.declared.key.PeriodKey.{PeriodKey}
use Rattle.periods.specs.declared.key.PeriodKey.TheVariants.{Gps, Gal, GpsIon, GalIon}
use Rattle.periods.specs.Mirrors.{or_else}
use Rattle.slot_assembly.specs.declared.order.BySat.{BySat}
use Rattle.slot_assembly.specs.declared.order.ByStamp.{ByStamp}
use Rattle.slot_assembly.specs.contracts.order.BySatOrd.TheImpl.{cmp-value as sat_cmp}
use Rattle.slot_assembly.specs.contracts.order.ByStampOrd.TheImpl.{cmp-value as stamp_cmp}
use Rattle.slot_assembly.specs.Order.{by_sat, by_stamp, sat_place, place_of_health, is_of_sat}

-- the health stored at a place
abbrev pub received_at : List (BySat × (ℕ × GalHealth × SentTag)) → BySat → Option (ℕ × GalHealth × SentTag)
received_at heard x = lookup (is_at (sat_cmp.it x)) heard

-- the index has the place
abbrev pub HasStamp : List ByStamp → ByStamp → Type 0
HasStamp stamps x = IsTrue (list_any (is_at (stamp_cmp.it x)) stamps)

-- map and index are sorted, each health is at its place, and the index has exactly the places of the map
pub record AreStamped (heard : List (BySat × (ℕ × GalHealth × SentTag))) (stamps : List ByStamp) : Type 0 where
  pub ordered : IsStrictlySortedBy sat_cmp.it (keys_of heard)
  pub in_order : IsStrictlySortedBy stamp_cmp.it stamps
  pub own : (x : BySat) (h : ℕ × GalHealth × SentTag) → received_at heard x ≡ Some h → (sat : Satellite) × (x ≡ place_of_health sat h)
  pub has : (x : ByStamp) → HasStamp stamps x → IsSome (received_at heard (sat_place x))
  pub had : (x : BySat) → IsSome (received_at heard x) → HasStamp stamps (by_stamp x)

-- the health at one place is replaced or removed; all else is the same
abbrev pub IsReceivedChanged : List (BySat × (ℕ × GalHealth × SentTag)) → BySat → Option (ℕ × GalHealth × SentTag) → List (BySat × (ℕ × GalHealth × SentTag)) → Type 0
IsReceivedChanged old x w new = (q : BySat) → received_at new q ≡ cond (is_at (sat_cmp.it x) q) w (received_at old q)

-- the same health is stored at every place
abbrev pub IsSameHealth : List (BySat × (ℕ × GalHealth × SentTag)) → List (BySat × (ℕ × GalHealth × SentTag)) → Type 0
IsSameHealth old new = (q : BySat) → received_at new q ≡ received_at old q

-- the health in a part's body, with its time tag
abbrev pub health_in : ℕ → Body → Option (ℕ × GalHealth × SentTag)
health_in stamp (OfHealth health tag) = Some (stamp, health, tag)
health_in stamp _ = None

-- the health is stored, if there is one
abbrev pub IsStated : List (BySat × (ℕ × GalHealth × SentTag)) → Satellite → Option (ℕ × GalHealth × SentTag) → List (BySat × (ℕ × GalHealth × SentTag)) → Type 0
IsStated old sat None new = IsSameHealth old new
IsStated old sat (Some h) new = IsReceivedChanged old (place_of_health sat h) (Some h) new

-- the health of a part is stored; other parts change nothing
abbrev pub IsReceived : List (BySat × (ℕ × GalHealth × SentTag)) → Part → List (BySat × (ℕ × GalHealth × SentTag)) → Type 0
IsReceived old p new = IsStated old p.sat (health_in p.stamp p.body) new

-- the last health below a place, or none
abbrev pub IsLastBelow : List (BySat × (ℕ × GalHealth × SentTag)) → BySat → Option (BySat × (ℕ × GalHealth × SentTag)) → Type 0
IsLastBelow heard at None = (y : BySat) → IsLtBy sat_cmp.it y at → IsSome (received_at heard y) → ⊥
IsLastBelow heard at (Some e) = (received_at heard e.0 ≡ Some e.1) × IsLtBy sat_cmp.it e.0 at × ((y : BySat) → IsLtBy sat_cmp.it y at → IsSome (received_at heard y) → is_lt (sat_cmp.it e.0 y) ≡ false)

-- the first health at or after a place, or none
abbrev pub IsFirstAbove : List (BySat × (ℕ × GalHealth × SentTag)) → BySat → Option (BySat × (ℕ × GalHealth × SentTag)) → Type 0
IsFirstAbove heard at None = (y : BySat) → IsLeBy sat_cmp.it at y → IsSome (received_at heard y) → ⊥
IsFirstAbove heard at (Some e) = (received_at heard e.0 ≡ Some e.1) × IsLeBy sat_cmp.it at e.0 × ((y : BySat) → IsLeBy sat_cmp.it at y → IsSome (received_at heard y) → IsLeBy sat_cmp.it e.0 y)

-- the health found before an end, if it is of the satellite and within the window
abbrev pub near_up : Satellite → ℕ → ℕ → Option (BySat × (ℕ × GalHealth × SentTag)) → Option (ℕ × GalHealth × SentTag)
near_up sat window e None = None
near_up sat window e (Some x) = if is_of_sat sat x.0 && nat_le e (x.1.0 + window) then Some x.1 else None

-- the health found after an end, if it is of the satellite and within the window
abbrev pub near_behind : Satellite → ℕ → ℕ → Option (BySat × (ℕ × GalHealth × SentTag)) → Option (ℕ × GalHealth × SentTag)
near_behind sat window e None = None
near_behind sat window e (Some x) = if is_of_sat sat x.0 && nat_le x.1.0 (e + window) then Some x.1 else None

-- the satellite's health near the end e: the last one up to it or, if there is none in the window,
-- the first one after it
pub record IsLooked (heard : List (BySat × (ℕ × GalHealth × SentTag))) (sat : Satellite) (window e : ℕ) (result : Option (ℕ × GalHealth × SentTag)) : Type 0 where
  pub below : Option (BySat × (ℕ × GalHealth × SentTag))
  pub above : Option (BySat × (ℕ × GalHealth × SentTag))
  pub is_below : IsLastBelow heard (by_sat sat (e + 1) 0) below
  pub is_above : IsFirstAbove heard (by_sat sat (e + 1) 0) above
  pub is : result ≡ or_else (near_up sat window e below) (near_behind sat window e above)

-- the health that a period of the key takes; none unless it is of Galileo ephemerides
abbrev pub IsChosen : List (BySat × (ℕ × GalHealth × SentTag)) → ℕ → PeriodKey → ℕ → Option (ℕ × GalHealth × SentTag) → Type 0
IsChosen heard window (Gal sat issue) e result = IsLooked heard sat window e result
IsChosen heard window (Gps sat issue) e result = result ≡ None
IsChosen heard window (GpsIon content) e result = result ≡ None
IsChosen heard window (GalIon content) e result = result ≡ None

-- some place whose time tag plus two windows is below the watermark, or that there is none
abbrev pub IsOldest : List ByStamp → ℕ → ℕ → Option ByStamp → Type 0
IsOldest stamps window watermark None = (x : ByStamp) → HasStamp stamps x → watermark ≤ x.stamp + 2 * window
IsOldest stamps window watermark (Some x) = HasStamp stamps x × (x.stamp + 2 * window < watermark)

-- exactly the health whose time tag plus two windows is below the watermark is removed
pub record IsForgotten (window watermark : ℕ) (old new : List (BySat × (ℕ × GalHealth × SentTag))) : Type 0 where
  pub gone : (x : BySat) → x.stamp + 2 * window < watermark → received_at new x ≡ None
  pub stays : (x : BySat) → watermark ≤ x.stamp + 2 * window → received_at new x ≡ received_at old x
