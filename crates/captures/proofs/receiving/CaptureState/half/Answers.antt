use Rattle.std.proofs.Common.{◌≡◌, ◌+◌, ◌≤◌, true, false, refl, arith}
use Rattle.std.proofs.lemmas.Bool.{eq-eqb, false≢true, ne_eqb}
use Rattle.nav_bits.specs.Bits.{number_at}
use Rattle.inav.specs.Keeping.{stamped}
use Rattle.capture_log.specs.Events.{is_alert, of_half}
use Rattle.capture_log.specs.Log.{noted}
use Rattle.captures.specs.Notes.{of_received}
use Rattle.captures.proofs.PartReceivers.{weights_heard}
use Rattle.captures.proofs.Keeping.{half_events, half_words, took_alert, took_half}
use Rattle.captures.proofs.Noting.{prefix_none}
use Rattle.captures.proofs.Takings.{alert_events, took_heard}
use Rattle.captures.proofs.receiving.CaptureState.half.Goals as goal

pub event-requires-clause-open : goal.event-requires-clause-open
event-requires-clause-open g c = (c.requires.open.0, c.requires.open.1, (tt, tt))

pub returns-in-Err-Alert : goal.returns-in-Err-Alert
returns-in-Err-Alert g c known keeps at near =
    let alert : is_alert c.args.bits.now ≡ true = eq-eqb (number_at c.args.bits.now 1 1) 1 (c.in-Err-Alert.ensures.alert.0 refl) in
    took_heard c.args.self.now _ c.args.self.now.halves c.event.new.self _ _ _ _ c.args.number _ _ _ c.event.result
    (took_alert c.args.self.now.halves c.args.self.now.window known c.args.stamp c.args.sat c.args.signal c.args.bits.now alert keeps)
    (omega (arith, c.max-self.ensures, at)) (omega arith) (omega arith) (alert_events known.halves c.args.stamp c.args.sat c.args.signal c.args.bits.now alert) c.event.ensures

pub returns-in-Ok-take : goal.returns-in-Ok-take
returns-in-Ok-take g c known keeps at near =
    let h = c.args.self.now in
    let nominal : is_alert c.args.bits.now ≡ false =
    ne_eqb (number_at c.args.bits.now 1 1) 1 (λ e. false≢true (c.in-Ok.ensures.alert.1 e)) in
    let timely : known.greatest ≤ c.args.stamp + c.args.self.now.window = omega (arith, at, near) in
    let new =
    half_words c.halves_are_decided.ensures.among c.words_are_the_function.ensures h.halves h.window known
    (stamped c.args.stamp c.args.sat c.args.signal c.in-Ok.half) c.in-Ok-take.joined.words keeps timely c.in-Ok-take.ensures.words c.in-Ok-take.ensures.again in
    let same =
    half_events known.halves c.args.stamp c.args.sat c.args.signal c.args.bits.now c.in-Ok.half c.in-Ok-take.joined.stamp c.in-Ok-take.joined.words nominal
    c.in-Ok.ensures.half new c.in-Ok-take.ensures.stamp in
    took_heard h _ c.take.new.self c.words.new.self _ _ _ _ c.args.number (of_received c.args.sat c.in-Ok-take.joined.stamp c.in-Ok-take.joined.words) _ _ c.words.result
    (took_half c.halves_are_decided.ensures.among h.halves c.take.new.self h.window known c.args.stamp c.args.sat
    c.args.signal c.args.bits.now c.in-Ok.half nominal c.in-Ok.ensures.half keeps c.in-Ok-take.ensures.kept c.in-Ok-take.ensures.greatest
    c.in-Ok-take.ensures.window)
    (omega (arith, c.max-self.ensures, at)) c.in-Ok-take.ensures.room
    (omega (arith, weights_heard c.args.sat c.in-Ok-take.joined.stamp c.in-Ok-take.joined.words, c.in-Ok-take.ensures.count)) same c.words.ensures

pub returns-in-Err : goal.returns-in-Err
returns-in-Err g c known keeps at near =
    (prefix_none (g.U.Sink.written c.args.report.now) (noted c.args.number (of_half known.halves c.args.stamp c.args.sat c.args.signal c.args.bits.now)), refl)
