use Rattle.std.proofs.Common.{◌≡◌, ℕ, ◌*◌, ◌<◌, length}
use Rattle.std.specs.List.{HoldsAt}
use Rattle.sent_captures.specs.Draws.{state_after}
use Rattle.sent_captures.specs.Values.{gal_values}
use Rattle.sent_captures.proofs.senders.draw_all_gal.Given as goal

abbrev pub invariant-satellites : goal.invariant-satellites
invariant-satellites l = record {
  state : l.state ≡ state_after l.initial.state (21 * l._i);
  count : length l.all.items ≡ l._i;
  values : (i : ℕ) → i < l._i → HoldsAt (λ v. v ≡ gal_values (state_after l.initial.state (21 * i))) l.all.items i;
}
