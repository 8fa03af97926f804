-- The events of an item, processed: a late item, one that is not late, and a page part.
use Rattle.std.proofs.Common.{◌≡◌, ℕ, ◌+◌, ◌≤◌, ◌<◌, max, Bool, true, false, nat_lt, if◌then◌else◌, List, [], ◌∷◌, length, Option, Some, Result, Ok, Err, refl, sym, ap, subst, ◌∙◌, arith}
use Rattle.std.specs.Prelude.{unwrap_or}
use Rattle.std.proofs.lemmas.Bool.{cond-true, cond-false, ltb-true}
use Rattle.nav_eph.specs.Satellite.{Satellite}
use Rattle.nav_eph.specs.declared.signal.Signal.{Signal}
use Rattle.inav.specs.Received.{StampedHalf}
use Rattle.inav.specs.Keeping.{Keeping}
use Rattle.capture_lines.specs.Late.{stamp_of}
use Rattle.capture_lines.specs.declared.item.LineItem.{LineItem}
use Rattle.capture_lines.specs.declared.item.LineItem.TheVariants.{Half}
use Rattle.capture_log.specs.Events.{Known, events_of, half_of, is_alert, is_late, known_with, new_words, of_half, of_words, with_half}
use Rattle.capture_log.specs.Log.{noted}
use Rattle.capture_log.specs.declared.event.Event.{Event}
use Rattle.capture_log.specs.declared.event.Event.TheVariants.{Late, Unused}
use Rattle.captures.specs.declared.receiver.PartReceiver.{PartReceiver}
use Rattle.captures.specs.declared.receiving.CaptureState.{CaptureState}
use Rattle.one_run.specs.declared.fault.BridgeFault.{BridgeFault}
use Rattle.captures.specs.Notes.{KeepsHalves, known_half, weights}
use Rattle.captures.specs.Hearings.{Received, Took}
use Rattle.captures.proofs.PartReceivers.{total_heard}
use Rattle.captures.proofs.ItemEvents.{Behind, keeps_item, late_events, late_halves, page_events}

-- a state with another greatest stamp, other page parts and another ear
abbrev pub hearing_with : CaptureState → ℕ → Keeping → PartReceiver → CaptureState
hearing_with h greatest halves receiver = record { window = h.window; greatest = greatest; halves = halves; receiver = receiver; said = h.said }

pub took_heard : {T : Type 0} (h : CaptureState) (greatest : ℕ) (halves : Keeping) (receiver : PartReceiver) (v w : Option (List ℕ)) (before now number : ℕ) (es fs : List Event) (known : Known) (result : Result T BridgeFault)
    → KeepsHalves halves h.window known → greatest ≡ known.greatest → length halves.kept ≤ length h.halves.kept + 1 → weights es ≤ length h.halves.kept + 1 → es ≡ fs
    → Received h.receiver receiver v w before now (noted number es) result
    → Took h (hearing_with h greatest halves receiver) v w before now (noted number fs) known result
took_heard h greatest halves receiver v w before now number es fs known (Ok x) keeps at kept few same heard =
    rw (sym same) (
      record {
        hears = heard.0;
        keeps = keeps;
        greatest = at;
        kept = kept;
        room = omega (arith, total_heard h.receiver receiver v w number es heard.0, few);
        window = refl;
        said = refl;
      },
      heard.1,
    )
took_heard h greatest halves receiver v w before now number es fs known (Err fault) keeps at kept few same heard = rw (sym same) heard

-- the same for the item that was matched
pub took_item : {T : Type 0} (h : CaptureState) (greatest : ℕ) (receiver : PartReceiver) (v w : Option (List ℕ)) (before now number : ℕ) (es : List Event) (known : Known) (item own : LineItem) (result : Result T BridgeFault)
    → item ≡ own → KeepsHalves h.halves h.window (known_with h.window known own) → greatest ≡ (known_with h.window known own).greatest → weights es ≤ 1 → es ≡ events_of h.window known own
    → Received h.receiver receiver v w before now (noted number es) result
    → Took h (hearing_with h greatest h.halves receiver) v w before now (noted number (events_of h.window known item)) (known_with h.window known item) result
took_item h greatest receiver v w before now number es known item own result is keeps at few same heard =
    rw is (took_heard h greatest h.halves receiver v w before now number es (events_of h.window known own) (known_with h.window known own) result keeps at (omega arith) (omega (arith, few)) same heard)

-- the greatest stamp with one item more
pub known_greatest : (window : ℕ) (known : Known) (item : LineItem) → max known.greatest (unwrap_or (stamp_of item) 0) ≡ (known_with window known item).greatest
unfolding known_with
known_greatest window known item = refl

-- an item that is late
pub took_late : {T : Type 0} (h : CaptureState) (receiver : PartReceiver) (v w : Option (List ℕ)) (before now number : ℕ) (known : Known) (item own : LineItem) (stamp : ℕ) (late : Bool) (result : Result T BridgeFault)
    → item ≡ own → stamp_of own ≡ Some stamp → late ≡ nat_lt (stamp + h.window) h.greatest → late ≡ true → known.greatest ≡ h.greatest → KeepsHalves h.halves h.window known
    → Received h.receiver receiver v w before now (noted number (Late ∷ [])) result
    → Took h (hearing_with h h.greatest h.halves receiver) v w before now (noted number (events_of h.window known item)) (known_with h.window known item) result
took_late h receiver v w before now number known item own stamp late result is stamped test so at keeps heard =
    let behind : Behind (stamp_of own) h.window known.greatest late =
    subst (λ (o : Option ℕ). Behind o h.window known.greatest late) (sym stamped) (test ∙ ap (nat_lt (stamp + h.window)) (sym at), tt) in
    let far : stamp + h.window < h.greatest = ltb-true (stamp + h.window) h.greatest (sym test ∙ so) in
    let greatest : h.greatest ≡ max known.greatest (unwrap_or (Some stamp) 0) = omega (arith, far, at) in
    took_item h h.greatest receiver v w before now number (Late ∷ []) known item own result is
    (keeps_item h.halves h.window known own (late_halves h.window known own late behind so) keeps)
    (subst (λ (o : Option ℕ). h.greatest ≡ max known.greatest (unwrap_or o 0)) (sym stamped) greatest ∙ known_greatest h.window known own)
    (omega arith) (late_events h.window known own late behind so) heard

-- a page part that is not late
known_page : (window : ℕ) (known : Known) (stamp : ℕ) (sat : Satellite) (signal : Signal) (bits : List ℕ) → is_late window known stamp ≡ false
    → known_half known stamp sat signal bits ≡ known_with window known (Half stamp sat signal bits)
unfolding known_with
known_page window known stamp sat signal bits timely =
    ap (λ (hs : List StampedHalf). record { greatest = max known.greatest stamp; halves = hs })
    (sym (cond-false (is_late window known stamp) known.halves (if is_alert bits then known.halves else with_half known.halves (half_of stamp sat signal bits)) timely))

pub took_page : {T : Type 0} (h new : CaptureState) (v w : Option (List ℕ)) (before now number : ℕ) (known : Known) (item : LineItem) (stamp : ℕ) (sat : Satellite) (signal : Signal) (bits : List ℕ) (result : Result T BridgeFault)
    → item ≡ Half stamp sat signal bits → is_late h.window known stamp ≡ false
    → Took h new v w before now (noted number (of_half known.halves stamp sat signal bits)) (known_half known stamp sat signal bits) result
    → Took h new v w before now (noted number (events_of h.window known item)) (known_with h.window known item) result
took_page h new v w before now number known item stamp sat signal bits result is timely took =
    rw (is, sym (page_events h.window known stamp sat signal bits timely), sym (known_page h.window known stamp sat signal bits timely)) took

-- an alert
pub alert_events : (halves : List StampedHalf) (stamp : ℕ) (sat : Satellite) (signal : Signal) (bits : List ℕ) → is_alert bits ≡ true → Unused ∷ [] ≡ of_half halves stamp sat signal bits
alert_events halves stamp sat signal bits alert =
    sym (cond-true (is_alert bits) (Unused ∷ []) (of_words (half_of stamp sat signal bits) (new_words halves (half_of stamp sat signal bits))) alert)
