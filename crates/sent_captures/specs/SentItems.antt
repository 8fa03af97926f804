-- The items that are received from those that are sent.
use Rattle.std.specs.Prelude.{ℕ, ◌+◌, pos, Bool, false, if◌then◌else◌, List, [], ◌∷◌, ◌++◌}
use Rattle.nav_eph.specs.Items.{galileo_toe_moment, is_alike}
use Rattle.nav_eph.specs.declared.ion.IonContent.TheVariants.{Gal as OfGal}
use Rattle.nav_eph.specs.declared.items.SentSecond.TheVariants.{At}
use Rattle.nav_eph.specs.declared.items.NavItem.{NavItem}
use Rattle.nav_eph.specs.declared.items.NavItem.TheVariants.{Gps as GpsItem, Gal as GalItem, Ion as IonItem}
use Rattle.periods.specs.declared.key.PeriodKey.TheVariants.{Gps, Gal}
use Rattle.periods.specs.KeyTests.{same_key}
use Rattle.sent_captures.specs.Slots.{galileo_second, gps_transmission, no_ionosphere}
use Rattle.sent_captures.specs.Sendable.{sendable}

-- the item with its transmission time
abbrev pub as_sent : NavItem → NavItem
as_sent (GpsItem e) = GpsItem (record e { sent = At (pos (gps_transmission e)) })
as_sent (GalItem e) = GalItem (record e { sent = At (pos (galileo_second e)) })
as_sent (IonItem e) = IonItem e

-- the ionosphere parameters of its slot: those of Galileo's word type 5
abbrev pub ionosphere_with : NavItem → List NavItem
ionosphere_with (GpsItem e) = []
ionosphere_with (GalItem e) =
    IonItem (record { sat = e.sat; moment = galileo_toe_moment e; content = OfGal no_ionosphere }) ∷ []
ionosphere_with (IonItem e) = []

-- both are ephemerides of one satellite and one issue of data
abbrev pub have_one_key : NavItem → NavItem → Bool
have_one_key (GpsItem a) (GpsItem b) = same_key (Gps a.sat a.a.iode) (Gps b.sat b.a.iode)
have_one_key (GalItem a) (GalItem b) = same_key (Gal a.sat a.w1.iodnav) (Gal b.sat b.w1.iodnav)
have_one_key a b = false

-- the latest item before with the same satellite and issue is alike; the latest is first in the list
abbrev pub repeats_latest : List NavItem → NavItem → Bool
repeats_latest [] x = false
repeats_latest (y ∷ ys) x = if have_one_key y x then is_alike y x else repeats_latest ys x

-- What is received from items sent after others: each with its transmission time, unless it repeats the latest of its
-- satellite and issue, then the ionosphere parameters of its slot.
abbrev pub items_back : List NavItem → List NavItem → List NavItem
items_back before [] = []
items_back before (x ∷ xs) =
    if repeats_latest before x then ionosphere_with x ++ items_back (x ∷ before) xs
    else as_sent x ∷ (ionosphere_with x ++ items_back (x ∷ before) xs)

-- what is received from a list of items that is sent near the week r
unfoldable pub sent_items : ℕ → List NavItem → List NavItem
sent_items r items = items_back [] (sendable r 0 items)
