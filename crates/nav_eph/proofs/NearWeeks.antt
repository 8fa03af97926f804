-- The weeks near a reference week.
use Rattle.std.proofs.Common.{◌≡◌, ℕ, ◌+◌, ◌-◌, ◌%◌, ◌↔◌, max, true, sym, arith}
use Rattle.std.proofs.lemmas.Bool.{le-leb, and_from}
use Rattle.nav_eph.specs.Weeks.{IsNearGalileo, IsNearGps}
use Rattle.nav_eph.specs.Functions.{galileo_week_to, gps_week_to, near_galileo, near_gps}
use Rattle.nav_eph.proofs.WeekFunctions.{galileo_week-only, gps_week-only}

pub near_gps-decides : (r w : ℕ) → (near_gps r w ≡ true) ↔ IsNearGps r w
near_gps-decides r w = (
  λ e. record { from = grind (arith, e); to = grind (arith, e) },
  λ near. and_from _ _ (le-leb r (w + 512) near.from) (le-leb w (r + 511) near.to),
)

pub near_galileo-decides : (r w : ℕ) → (near_galileo r w ≡ true) ↔ IsNearGalileo r w
near_galileo-decides r w = (
  λ e. record { from = grind (arith, e); to = grind (arith, e) },
  λ near. and_from _ _ (le-leb (max 1024 (r - 2048)) w near.from) (le-leb w (max 1024 (r - 2048) + 4095) near.to),
)

pub gps_number-means : (r w : ℕ) → IsNearGps r w → gps_week_to r (w % 1024) ≡ w
gps_number-means r w near = sym (gps_week-only r (w % 1024) w (record { same = omega arith; from = near.from; to = near.to }))

pub galileo_number-means : (r w : ℕ) → IsNearGalileo r w → galileo_week_to r ((w + 3072) % 4096) ≡ w
galileo_number-means r w near =
    sym (galileo_week-only r ((w + 3072) % 4096) w (record { same = omega arith; from = near.from; to = near.to }))
