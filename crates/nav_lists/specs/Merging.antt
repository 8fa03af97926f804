-- The merged list of items: of repeated items (equal but for the transmission time) the one sent
-- first, in the order of rank.
use Rattle.std.specs.Prelude.{◌≡◌, ℕ, ℤ, pos, Bool, true, false, cond, int_lt, List, [], ◌∷◌}
use Rattle.std.specs.Cmp.Lexicographic.{slice_cmp}
use Rattle.std.specs.List.{Contains, fold}
use Rattle.std.specs.List.Sorted.{IsStrictlySortedBy}
use Rattle.std.specs.Ordering.{int_cmp, match_ordering}
use Rattle.std.specs.declared.cmp.Ordering.{Ordering}
use Rattle.nav_eph.specs.Items.{IsAlike, galileo_toe_moment, gps_toe_moment}
use Rattle.nav_eph.specs.Ranks.{rank, sent_of}
use Rattle.nav_eph.specs.declared.ion.IonContent.{IonContent}
use Rattle.nav_eph.specs.declared.ion.IonContent.TheVariants.{Gps as OfGps, Gal as OfGal}
use Rattle.nav_eph.specs.declared.items.SentSecond.{SentSecond}
use Rattle.nav_eph.specs.declared.items.SentSecond.TheVariants.{Unknown, At}
use Rattle.nav_eph.specs.declared.items.NavItem.{NavItem}
use Rattle.nav_eph.specs.declared.items.NavItem.TheVariants.{Gps, Gal, Ion}

-- GPS time in seconds: toe of an ephemeris, transmission time of an ionosphere
abbrev pub moment_of : NavItem → ℕ
moment_of (Gps e) = gps_toe_moment e
moment_of (Gal e) = galileo_toe_moment e
moment_of (Ion e) = e.moment

-- the class of an ionosphere: 2 for GPS, 3 for Galileo
abbrev pub class_of_content : IonContent → ℕ
class_of_content (OfGps x) = 2
class_of_content (OfGal x) = 3

-- the class of an item: ephemerides of GPS, of Galileo, ionospheres of GPS, of Galileo
abbrev pub class_of : NavItem → ℕ
class_of (Gps e) = 0
class_of (Gal e) = 1
class_of (Ion e) = class_of_content e.content

-- the rank of an item: GPS time, class, and all fields but the transmission time
abbrev pub place : NavItem → List ℤ
place x = pos (moment_of x) ∷ pos (class_of x) ∷ rank x

-- the lexicographic order of ranks
abbrev pub by_rank : NavItem → NavItem → Ordering
by_rank a b = slice_cmp int_cmp (place a) (place b)

-- the first transmission time is earlier than the second; an unknown one is the latest
abbrev pub is_sooner : SentSecond → SentSecond → Bool
is_sooner (At s) (At t) = int_lt s t
is_sooner (At s) Unknown = true
is_sooner Unknown other = false

-- the item is in the set, and no item alike to it was sent earlier
pub record IsEarliest (items : NavItem → Type 0) (item : NavItem) : Type 0 where
  pub here : items item
  pub first : (other : NavItem) → items other → IsAlike other item → is_sooner (sent_of other) (sent_of item) ≡ false

-- the list ascends in rank, each of its items is the earliest of those alike to it, and each item of the set
-- is alike to one of the list
pub record IsMerged (items : NavItem → Type 0) (merged : List NavItem) : Type 0 where
  pub ascending : IsStrictlySortedBy by_rank merged
  pub each : (m : NavItem) → Contains merged m → IsEarliest items m
  pub every : (item : NavItem) → items item → (m : NavItem) × Contains merged m × IsAlike item m

-- of two items that are equal but for the transmission time the one sent earlier; `y` if both were
-- sent at the same time
abbrev pub earlier_of : NavItem → NavItem → NavItem
earlier_of x y = cond (is_sooner (sent_of x) (sent_of y)) x y

-- a merged list with one more item inserted
abbrev pub with_item : List NavItem → NavItem → List NavItem
with_item [] x = x ∷ []
with_item (y ∷ ys) x = match_ordering (by_rank x y) (x ∷ y ∷ ys) (earlier_of x y ∷ ys) (y ∷ with_item ys x)

-- the merged list of the items
unfoldable pub merged_of : List NavItem → List NavItem
merged_of items = fold with_item [] items
