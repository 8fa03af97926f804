use Rattle.std.proofs.Common.{◌≡◌, ℕ, ◌≤◌, [], ◌∷◌, map, Ok, refl, sym, ap, ◌∙◌}
use Rattle.std.proofs.lemmas.Bool.{false≢true}
use Rattle.rtcm_eph.specs.Reading.{all_parts, content_of, parts_of}
use Rattle.rtcm_eph.specs.declared.read.MessageParts.TheVariants.{Gps as GpsParts, Gal as GalParts}
use Rattle.capture_log.specs.Events.{of_message}
use Rattle.capture_log.specs.Log.{noted}
use Rattle.capture_log.specs.declared.event.Event.{Event}
use Rattle.capture_log.specs.declared.event.Event.TheVariants.{Received}
use Rattle.captures.proofs.PartReceivers.{heard_as, open_for}
use Rattle.captures.proofs.FrameEvents.{frame_yields, frame_refused, heard_from}
use Rattle.captures.proofs.receiver.PartReceiver.frame.Goals as goal

pub event-requires-clause-open : goal.event-requires-clause-open
event-requires-clause-open g c = (c.requires.open.0, c.requires.open.1, (tt, tt))

pub returns-in_default : goal.returns-in_default
returns-in_default g c =
    heard_as _ _ _ _ _ _ _ _ c.event.result
    (ap (noted c.args.number) (frame_refused c.args.stamp c.args.bytes.now (λ whole. false≢true (c.in_default.ensures.whole.1 whole)))) c.event.ensures

pub events-requires-clause-open : goal.events-requires-clause-open
events-requires-clause-open g c =
    let parts = all_parts (GpsParts c.in-Ok-Gps.clock c.in-Ok-Gps.a c.in-Ok-Gps.b) in
    let read : parts_of c.args.stamp (content_of c.payload.result.now) ≡ Ok (GpsParts c.in-Ok-Gps.clock c.in-Ok-Gps.a c.in-Ok-Gps.b) =
    sym c.read_message.ensures.answer ∙ c.in-Ok-Gps.is ∙ ap Ok c.in-Ok-Gps.field-0-is in
    open_for c.args.self.now c.args.stamp (map Received parts) c.requires.open
    (λ (least : ℕ) (low : least ≤ c.args.stamp). heard_from least c.args.stamp parts low
    (c.message_parts.ensures.stamps c.payload.result.now c.args.stamp (GpsParts c.in-Ok-Gps.clock c.in-Ok-Gps.a c.in-Ok-Gps.b) read))

pub returns-in-Ok-Gps : goal.returns-in-Ok-Gps
returns-in-Ok-Gps g c =
    let is : c.read_message.result ≡ Ok (GpsParts c.in-Ok-Gps.clock c.in-Ok-Gps.a c.in-Ok-Gps.b) = c.in-Ok-Gps.is ∙ ap Ok c.in-Ok-Gps.field-0-is in
    let yields =
    sym (ap of_message is)
    ∙ frame_yields c.args.stamp c.args.bytes.now c.in-Some.frame c.payload.result.now c.read_message.result (c.in-Some.ensures.whole.0 refl) c.in-Some.ensures.frame
    c.payload.ensures.value c.read_message.ensures.answer in
    heard_as _ _ _ _ _ _ _ _ c.events.result (ap (noted c.args.number) yields) c.events.ensures

pub events-requires-in-Ok-Gal-clause-open : goal.events-requires-in-Ok-Gal-clause-open
events-requires-in-Ok-Gal-clause-open g c =
    let parts = all_parts (GalParts c.in-Ok-Gal.w1 c.in-Ok-Gal.w2 c.in-Ok-Gal.w3 c.in-Ok-Gal.w4 c.in-Ok-Gal.health) in
    let read : parts_of c.args.stamp (content_of c.payload.result.now) ≡ Ok (GalParts c.in-Ok-Gal.w1 c.in-Ok-Gal.w2 c.in-Ok-Gal.w3 c.in-Ok-Gal.w4 c.in-Ok-Gal.health) =
    sym c.read_message.ensures.answer ∙ c.in-Ok-Gal.is ∙ ap Ok c.in-Ok-Gal.field-0-is in
    open_for c.args.self.now c.args.stamp (map Received parts) c.requires.open
    (λ (least : ℕ) (low : least ≤ c.args.stamp). heard_from least c.args.stamp parts low
    (c.message_parts.ensures.stamps c.payload.result.now c.args.stamp (GalParts c.in-Ok-Gal.w1 c.in-Ok-Gal.w2 c.in-Ok-Gal.w3 c.in-Ok-Gal.w4 c.in-Ok-Gal.health) read))

pub returns-in-Ok-Gal : goal.returns-in-Ok-Gal
returns-in-Ok-Gal g c =
    let is : c.read_message.result ≡ Ok (GalParts c.in-Ok-Gal.w1 c.in-Ok-Gal.w2 c.in-Ok-Gal.w3 c.in-Ok-Gal.w4 c.in-Ok-Gal.health) = c.in-Ok-Gal.is ∙ ap Ok c.in-Ok-Gal.field-0-is in
    let yields =
    sym (ap of_message is)
    ∙ frame_yields c.args.stamp c.args.bytes.now c.in-Some.frame c.payload.result.now c.read_message.result (c.in-Some.ensures.whole.0 refl) c.in-Some.ensures.frame
    c.payload.ensures.value c.read_message.ensures.answer in
    heard_as _ _ _ _ _ _ _ _ c.events-in-Ok-Gal.result (ap (noted c.args.number) yields) c.events-in-Ok-Gal.ensures

pub returns-in-Err : goal.returns-in-Err
returns-in-Err g c =
    let yields =
    ap (λ (event : Event). event ∷ []) c.message_event-event.ensures ∙ sym (ap of_message c.in-Err.is)
    ∙ frame_yields c.args.stamp c.args.bytes.now c.in-Some.frame c.payload.result.now c.read_message.result (c.in-Some.ensures.whole.0 refl) c.in-Some.ensures.frame
    c.payload.ensures.value c.read_message.ensures.answer in
    heard_as _ _ _ _ _ _ _ _ c.event-in-Err.result (ap (noted c.args.number) yields) c.event-in-Err.ensures
