use Rattle.std.proofs.Common.{◌≡◌, ◌≤◌, Ok, sym, subst, ◌∙◌, arith}
use Rattle.nav_eph.specs.declared.part.Part.{Part}
use Rattle.capture_log.specs.declared.event.Event.{Event}
use Rattle.captures.specs.Notes.{IfReceived}
use Rattle.captures.proofs.SubframeEvents.{subframe_from}
use Rattle.captures.proofs.receiver.PartReceiver.subframe.Goals as goal

pub event-requires-clause-open : goal.event-requires-clause-open
event-requires-clause-open g c =
    let stood = c.requires.open in
    let from : (part : Part) → c.read_subframe.result ≡ Ok part → stood.0.watermark ≤ part.stamp = λ part e.
    omega (arith, stood.2, ((c.subframe_function.ensures c.args.bits.now c.args.sat c.args.stamp part).0 (sym c.read_subframe.ensures.answer ∙ e)).0) in (
      stood.0,
      stood.1,
      (
        subst (λ (event : Event). IfReceived event (λ part. stood.0.watermark ≤ part.stamp)) (sym c.subframe_event-event.ensures)
            (subframe_from stood.0.watermark c.read_subframe.result from),
        tt,
      ),
    )
