-- The first and the last of the epochs of ephemerides.
use Rattle.std.specs.Prelude.{ℕ, List, [], ◌∷◌, Option, None, Some, min, max}
use Rattle.nav_eph.specs.declared.items.NavItem.{NavItem}
use Rattle.rinex_write.specs.Fields.{epoch_of}
use Rattle.streams.specs.declared.times.Times.{Times}

-- the times together with one more
abbrev pub with_time : Option Times → Option ℕ → Option Times
with_time times None = times
with_time None (Some epoch) = Some (record { first = epoch; last = epoch })
with_time (Some times) (Some epoch) = Some (record { first = min times.first epoch; last = max times.last epoch })

-- the times together with the epoch of an item
abbrev pub with_item : Option Times → NavItem → Option Times
with_item times item = with_time times (epoch_of item)

-- the times together with the epochs of items
abbrev pub times_with : Option Times → List NavItem → Option Times
times_with times [] = times
times_with times (item ∷ items) = times_with (with_item times item) items

-- the times of items; none if no item is an ephemeris
abbrev pub times_of : List NavItem → Option Times
times_of items = times_with None items
