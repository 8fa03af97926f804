use Rattle.std.proofs.Common.{◌≡◌, length}
use Rattle.inav.specs.Kept.{keys_held, KeepsKeys}
use Rattle.inav.proofs.seconds.make_places.Given as goal

abbrev pub invariant-loop : goal.invariant-loop
invariant-loop l = (length l.places.items ≡ l.counter) × KeepsKeys l.fn.places.items l.places.items
    × (keys_held l.places.items ≡ keys_held l.fn.places.items)
