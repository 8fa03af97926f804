use Rattle.std.proofs.Common.{◌≡◌, ℕ, ◌/◌, ◌<◌, length, slice_index_or}
use Rattle.std.specs.List.{HoldsAt}
use Rattle.sent_captures.specs.declared.values.GalValues.{GalValues}
use Rattle.sent_captures.specs.Mirrors.{IsPageIn}
use Rattle.sent_captures.proofs.pages.pages_of.Given as goal

abbrev pub invariant-places : goal.invariant-places
invariant-places l = record {
  count : length l.pages.items ≡ l.place;
  each : (q : ℕ) (v : GalValues) → q < l.place → HoldsAt (IsPageIn (slice_index_or l.values (q / 124) v) l.ion l.week q) l.pages.items q;
}
