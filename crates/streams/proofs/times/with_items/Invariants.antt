use Rattle.std.proofs.Common.{◌≡◌, drop}
use Rattle.streams.specs.Times.{times_with}
use Rattle.streams.proofs.times.with_items.Given as goal

abbrev pub invariant-items : goal.invariant-items
invariant-items l = times_with l.all (drop l.item-index l.items) ≡ times_with l.fn.times l.items
