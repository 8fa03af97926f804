use Rattle.std.proofs.Common.{◌∙◌, sym, ap, refl, arith}
use Rattle.std.proofs.lemmas.Bool.{both_ways}
use Rattle.nav_io.specs.Lines.{ends}
use Rattle.nav_io.specs.LinesState.{LinesState}
use Rattle.nav_io.proofs.Reading.{reading_start, reading_fill, breaks_read, breaks_long, answers_line, answers_last}
use Rattle.nav_io.proofs.lines.Lines.next.Goals as goal

pub reading-init : goal.reading-init
reading-init g c = rw (← c.self.view_is) (record {
  reading = reading_start _ _;
  faults = refl;
  never = λ h. h;
  held = λ h. (refl, refl);
  after_end = λ h. refl;
})

pub returns-in-Some-clause-answer : goal.returns-in-Some-clause-answer
returns-in-Some-clause-answer g c =
    let taken = ap (λ (s : LinesState). s.taken) c.self-in-reading.view_is in
    answers_line _ _ c.args.self.now c.reading.self c.give.new.self c.reading.looked c.in-Some.len c.give.result c.reading.invariant.reading (omega (arith, taken, c.reading-test.true))
    c.in-Some.ensures.some.0 c.in-Some.ensures.some.1 c.give.ensures.passes c.give.ensures.kind

pub returns-then-self-clause-answer : goal.returns-then-self-clause-answer
returns-then-self-clause-answer g c =
    let taken = ap (λ (s : LinesState). s.taken) c.self-in-reading.view_is in
    let ended = ap (λ (s : LinesState). s.ended) c.self-in-reading.view_is in
    answers_last _ _ c.args.self.now c.reading.self c.give_last.new.self c.reading.looked c.give_last.result c.reading.invariant.reading (omega (arith, taken, c.reading-test.true))
    (sym ended ∙ c.if-self.true) c.in_default.ensures.none c.give_last.ensures

pub reading-preserved : goal.reading-preserved
reading-preserved g c =
    let ended = ap (λ (s : LinesState). s.ended) c.self-in-reading.view_is in
    let now = c.reading.invariant in
    let more = sym ended ∙ c.if-self.false in
    let fills = c.in-Ok.ensures.ok in
    record {
      reading = reading_fill _ _ _ c.args.self.now c.reading.self c.fill.new.self c.reading.looked c.in-Ok.kept now.reading more c.in_default.ensures.none fills.0 fills.1;
      faults = c.in-Ok.ensures.cause.stays ∙ now.faults;
      never = λ h. (c.in-Ok.ensures.never (now.never h)).1;
      held = λ h. absurd (both_ways (ends c.reading.self.rest) c.in_default.ensures.none (ap ends (now.held h).1 ∙ h));
      after_end = λ h. absurd (both_ways c.reading.self.ended more (now.reading.reads.after_end h).0);
    }

pub returns-in-Err-clause-fault : goal.returns-in-Err-clause-fault
returns-in-Err-clause-fault g c =
    let taken = ap (λ (s : LinesState). s.taken) c.self-in-reading.view_is in
    let ended = ap (λ (s : LinesState). s.ended) c.self-in-reading.view_is in
    let keeps = c.in-Err.ensures.err in
    breaks_read _ _ _ c.args.self.now c.reading.self c.fill.new.self c.reading.looked c.reading.invariant.reading (sym ended ∙ c.if-self.false) c.in_default.ensures.none
    (omega (arith, taken, c.reading-test.true)) keeps.0 keeps.1

pub returns-clause-fault : goal.returns-clause-fault
returns-clause-fault g c =
    let taken = ap (λ (s : LinesState). s.taken) c.self-in-reading.view_is in
    breaks_long _ _ c.args.self.now c.reading.self c.reading.looked c.reading.invariant.reading (omega (arith, taken, c.reading-test.false)) (omega (arith, taken, c.self-in-reading.invariant.3))
