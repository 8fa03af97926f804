use Rattle.std.proofs.Common.{◌≡◌, ◌+◌, false, nat_lt, [], ◌∷◌, Ok, refl, sym, ap, ◌∙◌, arith}
use Rattle.std.specs.Prelude.{max}
use Rattle.capture_lines.specs.declared.item.LineItem.TheVariants.{Pass, Lnav, Half, Frame, Malformed}
use Rattle.lnav_subframe.specs.Reading.{subframe_of}
use Rattle.capture_log.specs.Events.{is_late, of_frame, of_subframe}
use Rattle.captures.proofs.PartReceivers.{hears_none, weights_frame, weights_single}
use Rattle.captures.proofs.ItemEvents.{frame_events, keeps_item, lnav_events, malformed_events, not_behind, pass_events}
use Rattle.captures.proofs.Takings.{known_greatest, took_item, took_late, took_page}
use Rattle.captures.proofs.receiving.CaptureState.item.Goals as goal

pub returns-in-Pass : goal.returns-in-Pass
returns-in-Pass g c known at keeps =
    let h = c.args.self.now in
    let greatest : h.greatest ≡ max known.greatest 0 = omega (arith, at) in
    took_item {T = Unit {0}} h h.greatest h.receiver _ _ _ _ c.args.number [] known c.args.item.now Pass (Ok tt) c.in-Pass.is (keeps_item h.halves h.window known Pass refl keeps)
    (greatest ∙ known_greatest h.window known Pass) (omega arith) (pass_events h.window known) (hears_none h.receiver (g.U.Sink.written c.args.report.now), refl)

pub event-requires-clause-open : goal.event-requires-clause-open
event-requires-clause-open g c = (c.requires.open.0, c.requires.open.1, (tt, tt))

pub returns-in-Malformed : goal.returns-in-Malformed
returns-in-Malformed g c known at keeps =
    let h = c.args.self.now in
    let greatest : h.greatest ≡ max known.greatest 0 = omega (arith, at) in
    took_item h h.greatest c.event.new.self _ _ _ _ c.args.number _ known c.args.item.now Malformed c.event.result c.in-Malformed.is (keeps_item h.halves h.window known Malformed refl keeps)
    (greatest ∙ known_greatest h.window known Malformed) (omega arith) (malformed_events h.window known) c.event.ensures

pub event-requires-then-is_late-clause-open : goal.event-requires-then-is_late-clause-open
event-requires-then-is_late-clause-open g c = (c.requires.open.0, c.requires.open.1, (tt, tt))

pub returns-then-is_late : goal.returns-then-is_late
returns-then-is_late g c known at keeps =
    took_late c.args.self.now c.event-then-is_late.new.self _ _ _ _ c.args.number known c.args.item.now (Lnav c.in-Lnav.stamp c.in-Lnav.sat c.in-Lnav.bits) c.in-Lnav.stamp c.is_late.result
    c.event-then-is_late.result c.in-Lnav.is refl c.is_late.ensures c.if-is_late.true at keeps c.event-then-is_late.ensures

pub subframe-requires-clause-open : goal.subframe-requires-clause-open
subframe-requires-clause-open g c =
    let near = not_behind c.in-Lnav.stamp c.args.self.now.window c.args.self.now.greatest (sym c.is_late.ensures ∙ c.if-is_late.false) in
    (c.requires.open.0, c.requires.open.1, omega (arith, c.requires.open.2, near))

pub returns-else-is_late : goal.returns-else-is_late
returns-else-is_late g c known at keeps =
    let h = c.args.self.now in
    let stamp = c.in-Lnav.stamp in
    let own = Lnav stamp c.in-Lnav.sat c.in-Lnav.bits in
    let late : is_late h.window known stamp ≡ false = ap (nat_lt (stamp + h.window)) at ∙ sym c.is_late.ensures ∙ c.if-is_late.false in
    let greatest : c.max-self.result ≡ max known.greatest stamp = omega (arith, c.max-self.ensures, at) in
    took_item h c.max-self.result c.subframe.new.self _ _ _ _ c.args.number (of_subframe (subframe_of c.in-Lnav.bits c.in-Lnav.sat stamp) ∷ []) known c.args.item.now own c.subframe.result c.in-Lnav.is
    (keeps_item h.halves h.window known own refl keeps) (greatest ∙ known_greatest h.window known own) (weights_single _) (lnav_events h.window known stamp c.in-Lnav.sat c.in-Lnav.bits late) c.subframe.ensures

pub event-requires-then-is_late-2-clause-open : goal.event-requires-then-is_late-2-clause-open
event-requires-then-is_late-2-clause-open g c = (c.requires.open.0, c.requires.open.1, (tt, tt))

pub returns-then-is_late-2 : goal.returns-then-is_late-2
returns-then-is_late-2 g c known at keeps =
    took_late c.args.self.now c.event-then-is_late-2.new.self _ _ _ _ c.args.number known c.args.item.now (Half c.in-Half.stamp c.in-Half.sat c.in-Half.signal c.in-Half.bits) c.in-Half.stamp
    c.is_late-in-Half.result c.event-then-is_late-2.result c.in-Half.is refl c.is_late-in-Half.ensures c.if-is_late-2.true at keeps c.event-then-is_late-2.ensures

pub half-requires-clause-open : goal.half-requires-clause-open
half-requires-clause-open g c =
    let near = not_behind c.in-Half.stamp c.args.self.now.window c.args.self.now.greatest (sym c.is_late-in-Half.ensures ∙ c.if-is_late-2.false) in
    (c.requires.open.0, c.requires.open.1, omega (arith, c.requires.open.2, near))

pub returns-else-is_late-2 : goal.returns-else-is_late-2
returns-else-is_late-2 g c known at keeps =
    let h = c.args.self.now in
    let stamp = c.in-Half.stamp in
    let late : is_late h.window known stamp ≡ false = ap (nat_lt (stamp + h.window)) at ∙ sym c.is_late-in-Half.ensures ∙ c.if-is_late-2.false in
    let near = not_behind stamp h.window h.greatest (sym c.is_late-in-Half.ensures ∙ c.if-is_late-2.false) in
    took_page h c.half.new.self _ _ _ _ c.args.number known c.args.item.now stamp c.in-Half.sat c.in-Half.signal c.in-Half.bits c.half.result c.in-Half.is late
    (c.half.ensures known keeps at near)

pub event-requires-then-is_late-3-clause-open : goal.event-requires-then-is_late-3-clause-open
event-requires-then-is_late-3-clause-open g c = (c.requires.open.0, c.requires.open.1, (tt, tt))

pub returns-then-is_late-3 : goal.returns-then-is_late-3
returns-then-is_late-3 g c known at keeps =
    took_late c.args.self.now c.event-then-is_late-3.new.self _ _ _ _ c.args.number known c.args.item.now (Frame c.in-Frame.stamp c.in-Frame.bytes) c.in-Frame.stamp c.is_late-in-Frame.result
    c.event-then-is_late-3.result c.in-Frame.is refl c.is_late-in-Frame.ensures c.if-is_late-3.true at keeps c.event-then-is_late-3.ensures

pub frame-requires-clause-open : goal.frame-requires-clause-open
frame-requires-clause-open g c =
    let near = not_behind c.in-Frame.stamp c.args.self.now.window c.args.self.now.greatest (sym c.is_late-in-Frame.ensures ∙ c.if-is_late-3.false) in
    (c.requires.open.0, c.requires.open.1, omega (arith, c.requires.open.2, near))

pub returns-else-is_late-3 : goal.returns-else-is_late-3
returns-else-is_late-3 g c known at keeps =
    let h = c.args.self.now in
    let stamp = c.in-Frame.stamp in
    let own = Frame stamp c.in-Frame.bytes in
    let late : is_late h.window known stamp ≡ false = ap (nat_lt (stamp + h.window)) at ∙ sym c.is_late-in-Frame.ensures ∙ c.if-is_late-3.false in
    let greatest : c.max-self-in-Frame.result ≡ max known.greatest stamp = omega (arith, c.max-self-in-Frame.ensures, at) in
    took_item h c.max-self-in-Frame.result c.frame.new.self _ _ _ _ c.args.number (of_frame stamp c.as_slice.result.now) known c.args.item.now own c.frame.result c.in-Frame.is
    (keeps_item h.halves h.window known own refl keeps) (greatest ∙ known_greatest h.window known own) (weights_frame stamp c.as_slice.result.now)
    (ap (of_frame stamp) c.as_slice.ensures.value ∙ frame_events h.window known stamp c.in-Frame.bytes.items late) c.frame.ensures
