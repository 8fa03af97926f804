use Rattle.std.proofs.Common.{ℕ, Bool, List, not, refl, subst, ◌∙◌, arith}
use Rattle.std.proofs.lemmas.Result.{err_from_is_err_and, on_err_weaker}
use Rattle.framing.specs.State.{TakesFrame, TakesNone}
use Rattle.streams.specs.FrameLines.{line_of}
use Rattle.streams.specs.FrameRuns.{Gathers}
use Rattle.streams.proofs.Holding.{holds_nothing, holds_frame, holds_none, holds_breaks, holds_goes}
use Rattle.streams.proofs.StreamLemmas.{on_ok2}
use Rattle.streams.proofs.frame_run.process_frames.Goals as goal

pub returns-in_err-gather-clause-breaks : goal.returns-in_err-gather-clause-breaks
returns-in_err-gather-clause-breaks g c =
    let p = err_from_is_err_and c.from_residual.result c.from_residual.ensures.1 in
    rw p.1 (holds_breaks line_of _ _ _ _ _ _ _ _ _ c.giving.invariant.holds c.in_err-gather.ensures.part)

pub giving-preserved : goal.giving-preserved
giving-preserved g c =
    let takes = subst (λ (b : Bool). TakesFrame (not b) c.giving.deframer.rest c.next_into.new.frame c.next_into.new.self.rest) c.giving.invariant.finished (c.next_into.ensures.frame c.giving-test.true) in
    let gathers = subst (λ (l : List ℕ). Gathers (g.T.Sink.written c.giving.output) (g.T.Sink.written c.gather.new.output) c.giving.lines.items c.gather.new.lines.items l) c.frame_line.ensures c.in_ok-gather.ensures.gathers in
    record {
      holds = holds_frame line_of _ _ _ _ _ _ _ _ _ _ _ _ c.giving.invariant.holds takes gathers;
      finished = c.next_into.ensures.finished ∙ c.giving.invariant.finished;
      faults = c.in_ok-gather.ensures.cause.stays ∙ c.giving.invariant.faults;
      room = omega (arith, takes.shorter, c.giving.invariant.room);
    }

pub giving-init : goal.giving-init
giving-init g c = record {
  holds = rw c.new-lines.ensures (holds_nothing line_of _ _ _ _);
  finished = refl;
  faults = refl;
  room = omega arith;
}

pub returns-clause-breaks : goal.returns-clause-breaks
returns-clause-breaks g c =
    on_err_weaker c.write_gathered.result (holds_breaks line_of _ _ _ _ _ _ _ _ _ c.giving.invariant.holds) c.write_gathered.ensures.part

pub returns-clause-goes : goal.returns-clause-goes
returns-clause-goes g c =
    let none = subst (λ (b : Bool). TakesNone (not b) c.giving.deframer.rest c.next_into.new.self.rest) c.giving.invariant.finished (c.next_into.ensures.none c.giving-test.false) in
    let held = holds_none line_of _ _ _ _ _ _ _ _ _ c.giving.invariant.holds none in
    on_ok2 c.write_gathered.result c.write_gathered.ensures.text c.write_gathered.ensures.text (λ text same. holds_goes line_of _ _ _ _ _ _ _ _ _ held text)
