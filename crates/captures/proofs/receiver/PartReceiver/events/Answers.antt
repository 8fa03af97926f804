use Rattle.std.proofs.Common.{ℕ, ◌+◌, ◌<◌, List, [], ◌∷◌, take, drop, length, refl, sym, subst, ◌∙◌, arith}
use Rattle.capture_log.specs.Log.{Noted, noted}
use Rattle.captures.specs.Hearings.{Receives}
use Rattle.captures.specs.Notes.{AreFrom}
use Rattle.captures.proofs.PartReceivers.{hears_more, hears_none, open_after, total_heard, unheard_within}
use Rattle.captures.proofs.Weighing.{from_one, noted_one, noted_split, weights_one}
use Rattle.captures.proofs.receiver.PartReceiver.events.Goals as goal

pub taking-init : goal.taking-init
taking-init g c = record { heard = hears_none c.args.self.now (g.U.Sink.written c.args.report.now); faults = refl }

pub event-requires-clause-open : goal.event-requires-clause-open
event-requires-clause-open g c =
    let within : c.taking.event-index < length c.args.events.now = omega (arith, c.taking-test.true) in
    let s = open_after c.args.self.now c.taking.self _ _ _ (λ (m : ℕ). AreFrom m c.args.events.now) c.taking.invariant.heard c.requires.open in
    (s.0, s.1, (from_one s.0.watermark c.args.events.now c.taking.event-index c.event-item.result within c.event-item.is s.2, tt))

pub event-requires-clause-room : goal.event-requires-clause-room
event-requires-clause-room g c =
    let es = c.args.events.now in
    let i = c.taking.event-index in
    let within : c.taking.event-index < length c.args.events.now = omega (arith, c.taking-test.true) in
    omega (
      arith,
      c.requires.room,
      total_heard c.args.self.now c.taking.self _ _ c.args.number (take i es) c.taking.invariant.heard,
      weights_one es i c.event-item.result within c.event-item.is,
    )

pub taking-preserved : goal.taking-preserved
taking-preserved g c =
    let es = c.args.events.now in
    let i = c.taking.event-index in
    let within : c.taking.event-index < length c.args.events.now = omega (arith, c.taking-test.true) in
    record {
      heard =
          subst (λ (log : List Noted). Receives c.args.self.now c.event.new.self (g.U.Sink.written c.args.report.now) (g.U.Sink.written c.event.new.report) log)
          (sym (noted_one c.args.number es i c.event-item.result within c.event-item.is))
          (hears_more _ _ _ _ _ _ _ _ c.taking.invariant.heard c.in-Ok.ensures.0);
      faults = c.in-Ok.ensures.1 ∙ c.taking.invariant.faults;
    }

pub returns-in-Err : goal.returns-in-Err
returns-in-Err g c =
    let es = c.args.events.now in
    let i = c.taking.event-index in
    let within : c.taking.event-index < length c.args.events.now = omega (arith, c.taking-test.true) in
    unheard_within c.args.self.now c.taking.self _ _ _ _ _ _ (noted c.args.number (take i es)) (noted c.args.number (c.event-item.result ∷ []))
    (noted c.args.number (drop (i + 1) es)) (noted c.args.number es) c.in-Err.fault (noted_split c.args.number es i c.event-item.result within c.event-item.is)
    c.taking.invariant.heard c.taking.invariant.faults c.in-Err.ensures
