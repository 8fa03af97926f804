-- What proofs of other crates cite: the times of more items.
use Rattle.std.proofs.Common.{◌≡◌, List, [], ◌∷◌, ◌++◌, Option, refl}
use Rattle.nav_eph.specs.declared.items.NavItem.{NavItem}
use Rattle.streams.specs.Times.{times_of, times_with, with_item}
use Rattle.streams.specs.declared.times.Times.{Times}

-- the times of items and then of others
pub times_behind : (times : Option Times) (items more : List NavItem) → times_with times (items ++ more) ≡ times_with (times_with times items) more
times_behind times [] more = refl
times_behind times (item ∷ items) more = times_behind (with_item times item) items more

-- the times of items with one more at their end
pub times_more : (items : List NavItem) (item : NavItem) → times_of (items ++ item ∷ []) ≡ with_item (times_of items) item
times_more items item = times_behind _ items (item ∷ [])
