use Rattle.std.proofs.Common.{Contains, refl, ◌∙◌}
use Rattle.periods.specs.Verdicts.{closed_place}
use Rattle.slot_assembly.specs.Standing.{Tells, Carries, IsNext, NoneDue, giving, reaching}
use Rattle.slot_assembly.proofs.Surface.{next_at, none_at, stood_giving}
use Rattle.slot_assembly.specs.SlotStanding.{SlotsStandFor}
use Rattle.slot_assembly.specs.SlotLaws.{parts_are_values}
use Rattle.captures.proofs.Writing.{writes_start, writes_more, writes_some, writes_part, writes_all, counts_start, counts_more, counts_one}
use Rattle.captures.proofs.flush.write_closed.Goals as goal

pub giving-init : goal.giving-init
giving-init g c =
    let now = SlotsStandFor c.args.assembly.now in
    let r = c.args.assembly.now.reference in
    let w = c.args.assembly.now.window in
    let values = parts_are_values c.args.assembly.now in
    record {
      reference = refl;
      window = refl;
      stood = c.requires.stood;
      writes = λ parts before start low flushed.
          writes_start now r w c.args.to.now before c.args.watermark parts start (g.T.Sink.written c.args.output.now) c.args.said.now values low flushed;
      counts = counts_start now r w c.args.watermark c.args.said.now values c.requires.room;
      faults = refl;
    }

pub count-requires : goal.count-requires
count-requires g c =
    let now = SlotsStandFor c.giving.assembly in
    let new = SlotsStandFor c.close_next.new.self in
    let r = c.args.assembly.now.reference in
    let w = c.args.assembly.now.window in
    let carries : Carries now new (giving c.args.watermark (closed_place c.in-Some.closed)) = rw c.in-Some.is at (c.in-Ok-true.ensures.given c.in-Ok-true.field-0-test) in
    let told : Tells now (λ at. IsNext c.giving.assembly.reference c.giving.assembly.window (Contains at.parts) c.args.watermark at.last c.in-Some.closed) =
    rw c.in-Some.is at (c.in-Ok-true.ensures.next c.in-Ok-true.field-0-test) in
    counts_one now new r w c.args.watermark c.giving.said c.in-Some.closed (parts_are_values c.giving.assembly) (parts_are_values c.close_next.new.self)
    (next_at now _ r _ w c.args.watermark c.in-Some.closed c.giving.invariant.reference c.giving.invariant.window told) carries c.giving.invariant.counts

pub giving-preserved : goal.giving-preserved
giving-preserved g c =
    let now = SlotsStandFor c.giving.assembly in
    let new = SlotsStandFor c.close_next.new.self in
    let r = c.args.assembly.now.reference in
    let w = c.args.assembly.now.window in
    let m = c.args.watermark in
    let closed = c.in-Some.closed in
    let values = parts_are_values c.giving.assembly in
    let carries : Carries now new (giving m (closed_place closed)) = rw c.in-Some.is at (c.in-Ok-true.ensures.given c.in-Ok-true.field-0-test) in
    let told : Tells now (λ at. IsNext c.giving.assembly.reference c.giving.assembly.window (Contains at.parts) m at.last closed) =
    rw c.in-Some.is at (c.in-Ok-true.ensures.next c.in-Ok-true.field-0-test) in
    let next = next_at now _ r _ w m closed c.giving.invariant.reference c.giving.invariant.window told in
    record {
      reference = c.in-Ok-true.ensures.reference ∙ c.giving.invariant.reference;
      window = c.in-Ok-true.ensures.window ∙ c.giving.invariant.window;
      stood = stood_giving now new m (closed_place closed) c.giving.invariant.stood carries;
      writes = λ parts before start low flushed.
          writes_more now new r w c.args.to.now before m parts start (g.T.Sink.written c.giving.output) (g.T.Sink.written c.list.new.out) c.giving.said c.count.new.self closed
          values next carries c.in-Ok.ensures.bytes c.count.ensures.said (c.giving.invariant.writes parts before start low flushed);
      counts = counts_more now new r w m c.giving.said c.count.new.self closed values next carries c.count.ensures.said c.giving.invariant.counts;
      faults = c.in-Ok.ensures.cause.stays ∙ c.giving.invariant.faults;
    }

pub returns-in-Err-list-clause-err : goal.returns-in-Err-list-clause-err
returns-in-Err-list-clause-err g c = λ parts before start low flushed.
    let now = SlotsStandFor c.giving.assembly in
    let new = SlotsStandFor c.close_next.new.self in
    let r = c.args.assembly.now.reference in
    let w = c.args.assembly.now.window in
    let m = c.args.watermark in
    let closed = c.in-Some.closed in
    let carries : Carries now new (giving m (closed_place closed)) = rw c.in-Some.is at (c.in-Ok-true.ensures.given c.in-Ok-true.field-0-test) in
    let told : Tells now (λ at. IsNext c.giving.assembly.reference c.giving.assembly.window (Contains at.parts) m at.last closed) =
    rw c.in-Some.is at (c.in-Ok-true.ensures.next c.in-Ok-true.field-0-test) in
    writes_part now new r w c.args.to.now before m parts start (g.T.Sink.written c.giving.output) (g.T.Sink.written c.list.new.out) c.giving.said closed
    (parts_are_values c.giving.assembly) (parts_are_values c.close_next.new.self)
    (next_at now _ r _ w m closed c.giving.invariant.reference c.giving.invariant.window told) carries c.in-Err-list.ensures.bytes (c.giving.invariant.writes parts before start low flushed)

pub returns-in-Ok-false-clause-ok : goal.returns-in-Ok-false-clause-ok
returns-in-Ok-false-clause-ok g c = λ parts before start low flushed.
    let now = SlotsStandFor c.giving.assembly in
    let new = SlotsStandFor c.close_next.new.self in
    let r = c.args.assembly.now.reference in
    let w = c.args.assembly.now.window in
    let carries : Carries now new (reaching c.args.watermark) = c.in-Ok-false.ensures.reached c.in-Ok-false.field-0-test in
    let told : Tells now (λ at. NoneDue c.giving.assembly.window (Contains at.parts) c.args.watermark at.last) = c.in-Ok-false.ensures.none c.in-Ok-false.field-0-test in
    writes_all now new r w c.args.to.now before c.args.watermark parts start (g.T.Sink.written c.giving.output) c.giving.said
    (parts_are_values c.giving.assembly) (none_at now _ w c.args.watermark c.giving.invariant.window told) carries (c.giving.invariant.writes parts before start low flushed)

pub returns-in-Err-clause-err : goal.returns-in-Err-clause-err
returns-in-Err-clause-err g c = λ parts before start low flushed.
    writes_some (SlotsStandFor c.giving.assembly) c.args.assembly.now.reference c.args.assembly.now.window c.args.to.now before c.args.watermark parts
    start (g.T.Sink.written c.giving.output) c.giving.said (parts_are_values c.giving.assembly) (c.giving.invariant.writes parts before start low flushed)
