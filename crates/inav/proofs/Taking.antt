-- The stored page parts after one is taken, from keys to what contracts see.
use Rattle.std.proofs.Common.{◌≡◌, ℕ, ◌+◌, ◌<◌, List, ◌⊎◌, ◌↔◌, map, inl, inr, refl, sym, ap, subst, ◌∙◌, ⊎_elim, arith}
use Rattle.std.specs.Prelude.{Contains, Result, Ok, Err, IfOk, OnOk}
use Rattle.nav_eph.specs.Satellite.{Satellite}
use Rattle.nav_eph.specs.declared.sat.System.TheVariants.{Gal}
use Rattle.inav.specs.Received.{StampedHalf}
use Rattle.inav.specs.Keeping.{IsRecent}
use Rattle.inav.specs.declared.seconds.Seconds.{Seconds}
use Rattle.inav.specs.Mirrors.{half_of, IsKey, AreKeys}
use Rattle.inav.specs.Kept.{keys_in, AreSeconds}
use Rattle.inav.proofs.Membership.{contains_from_In, In-from_contains, in_map, map_in}
use Rattle.inav.proofs.Partners.{same_key}
use Rattle.inav.proofs.Placing.{in_window}

pub satellite_is : (sat : Satellite) (number : ℕ) → sat.system ≡ Gal → number ≡ sat.number → record { system = Gal; number = number } ≡ sat
satellite_is sat number system same = λ i. record { system = sym system i; number = same i }

pub key_in : (keys : List (ℕ × ℕ)) (key : ℕ × ℕ) (taken : StampedHalf) → half_of key ≡ taken → Contains keys key
    → Contains (map half_of keys) taken
key_in keys key taken is there =
    let P : StampedHalf → Type 0 = Contains (map half_of keys) in
    subst P is (contains_from_In (map half_of keys) (half_of key) (in_map half_of keys key (In-from_contains keys key there)))

pub in_key : (keys : List (ℕ × ℕ)) (key : ℕ × ℕ) (taken : StampedHalf) → AreKeys keys → IsKey key → half_of key ≡ taken
    → Contains (map half_of keys) taken → Contains keys key
in_key keys key taken are own is there =
    let found = map_in half_of keys taken (In-from_contains (map half_of keys) taken there) in
    let stands = contains_from_In keys found.0 found.1 in
    let P : ℕ × ℕ → Type 0 = Contains keys in
    subst P (same_key found.0 key (are found.0 stands) own (found.2 ∙ sym is)) stands

-- the stored parts afterwards: of those before and the new one, the recent ones
pub kept_after : (old new : List (ℕ × ℕ)) (key : ℕ × ℕ) (taken : StampedHalf) (window greatest : ℕ) → half_of key ≡ taken
    → ((q : ℕ × ℕ) → Contains new q ↔ ((Contains old q ⊎ (key ≡ q)) × IsRecent window greatest (half_of q)))
    → (other : StampedHalf)
    → Contains (map half_of new) other ↔ ((Contains (map half_of old) other ⊎ (taken ≡ other)) × IsRecent window greatest other)
kept_after old new key taken window greatest is puts other =
    let P : StampedHalf → Type 0 = Contains (map half_of new) in
    let Q : StampedHalf → Type 0 = λ h. (Contains (map half_of old) h ⊎ (taken ≡ h)) × IsRecent window greatest h in
    let R : StampedHalf → Type 0 = IsRecent window greatest in
    let mapped : (keys : List (ℕ × ℕ)) (q : ℕ × ℕ) → Contains keys q → Contains (map half_of keys) (half_of q) =
    λ keys q h. contains_from_In (map half_of keys) (half_of q) (in_map half_of keys q (In-from_contains keys q h)) in (
      λ h. let q = map_in half_of new other (In-from_contains (map half_of new) other h) in
          let both = (puts q.0).0 (contains_from_In new q.0 q.1) in
          let there : Contains (map half_of old) (half_of q.0) ⊎ (taken ≡ half_of q.0) =
          ⊎_elim (λ (was : Contains old q.0). inl (mapped old q.0 was)) (λ (same : key ≡ q.0). inr (sym is ∙ ap half_of same)) both.0 in
          subst Q q.2 (there, both.1),
      λ h. ⊎_elim
          (λ (was : Contains (map half_of old) other).
          let q = map_in half_of old other (In-from_contains (map half_of old) other was) in
          subst P q.2 (mapped new q.0 ((puts q.0).1 (inl (contains_from_In old q.0 q.1), subst R (sym q.2) h.1))))
          (λ (same : taken ≡ other).
          let one : half_of key ≡ other = is ∙ same in
          subst P one (mapped new key ((puts key).1 (inr refl, subst R (sym one) h.1))))
          h.0,
    )

-- the stored page parts are recent
recent_halves : (seconds : Seconds) → AreSeconds seconds → (other : StampedHalf) → Contains (map half_of (keys_in seconds)) other
    → IsRecent seconds.window seconds.greatest other
recent_halves seconds are other h =
    let R : StampedHalf → Type 0 = IsRecent seconds.window seconds.greatest in
    let q = map_in half_of (keys_in seconds) other (In-from_contains (map half_of (keys_in seconds)) other h) in
    subst R q.2 (in_window seconds q.0 are (contains_from_In (keys_in seconds) q.0 q.1)).1

-- a page part that is too old is not stored
pub not_among : (seconds : Seconds) (taken : StampedHalf) → AreSeconds seconds → taken.stamp + seconds.window + 1 < seconds.greatest
    → Contains (map half_of (keys_in seconds)) taken → ⊥
not_among seconds taken are old h = let late = recent_halves seconds are taken h in omega (arith, late, old)

-- and leaves the stored ones unchanged
pub kept_without : (seconds : Seconds) (taken : StampedHalf) → AreSeconds seconds → taken.stamp + seconds.window + 1 < seconds.greatest
    → (other : StampedHalf) → Contains (map half_of (keys_in seconds)) other
    ↔ ((Contains (map half_of (keys_in seconds)) other ⊎ (taken ≡ other)) × IsRecent seconds.window seconds.greatest other)
kept_without seconds taken are old other = (
  λ h. (inl h, recent_halves seconds are other h),
  λ h. ⊎_elim
      (λ (was : Contains (map half_of (keys_in seconds)) other). was)
      (λ (same : taken ≡ other). absurd (let late = h.1 in let at = ap (λ s. s.stamp) same in omega (arith, late, at, old)))
      h.0,
)

-- ---- what holds for every result of a call

pub if_ok : {A E : Type 0} (r : Result A E) (P : A → Type 0) → ((a : A) → P a) → IfOk r P
if_ok (Ok a) P h = h a
if_ok (Err e) P h = tt

pub on_ok : {A E : Type 0} (r : Result A E) (P : Type 0) → P → OnOk r P
on_ok (Ok a) P h = h
on_ok (Err e) P h = tt

pub on_ok_then : {A E : Type 0} (r : Result A E) (P Q : Type 0) → (P → Q) → OnOk r P → OnOk r Q
on_ok_then (Ok a) P Q step h = step h
on_ok_then (Err e) P Q step h = tt
