use Rattle.std.proofs.Common.{◌≡◌, ◌+◌, ◌*◌, ◌∙◌, length, get_or, ap, refl, arith}
use Rattle.std.proofs.lemmas.List.{length_push}
use Rattle.sent_captures.specs.declared.values.GpsValues.{GpsValues}
use Rattle.sent_captures.specs.Draws.{state_after}
use Rattle.sent_captures.specs.Values.{gps_values}
use Rattle.sent_captures.proofs.States.{state_after-add}
use Rattle.sent_captures.proofs.Pushes.{each_push}
use Rattle.sent_captures.proofs.senders.draw_all_gps.Goals as goal

pub satellites-init : goal.satellites-init
unfolding state_after
satellites-init c = record { state = refl; count = ap length c.new-all.ensures.items; values = λ i low d. absurd (omega arith) }

pub satellites-preserved : goal.satellites-preserved
satellites-preserved c =
    let first = c.args.state.now in
    let done = c.satellites._i in
    let next : 24 * done + 24 ≡ 24 * (done + 1) = omega arith in
    let all = c.satellites.all.items in
    let new : c.push.new.self.items ≡ _ = c.in_ok-push.ensures.items in
    let here : c.draw_gps.result ≡ gps_values (state_after first (24 * done)) = c.draw_gps.ensures.values ∙ ap gps_values c.satellites.invariant.state in
    record {
      state = c.draw_gps.ensures.after ∙ ap (λ x. state_after x 24) c.satellites.invariant.state ∙ state_after-add first (24 * done) 24 ∙ ap (state_after first) next;
      count = ap length new ∙ length_push all c.draw_gps.result ∙ ap (λ n. n + 1) c.satellites.invariant.count;
      values = λ i low d.
          ap (λ xs. get_or xs i d) new
          ∙ each_push (λ j (v : GpsValues). v ≡ gps_values (state_after first (24 * j))) all c.draw_gps.result done c.satellites.invariant.count c.satellites.invariant.values here i low d;
    }
