use Rattle.std.proofs.Common.{Bool, not, subst, ap, ◌∙◌, arith}
use Rattle.std.proofs.lemmas.Result.{err_from_is_err_and}
use Rattle.framing.specs.State.{TakesFrame, TakesNone}
use Rattle.streams.proofs.MoveLemmas.{moves_more, moves_none, stops_more}
use Rattle.streams.proofs.frames.process_frames.Goals as goal

pub returns-in_err-convert_frame-clause-breaks : goal.returns-in_err-convert_frame-clause-breaks
returns-in_err-convert_frame-clause-breaks g c =
    let p = err_from_is_err_and c.from_residual.result c.from_residual.ensures.1 in
    let takes = subst (λ (b : Bool). TakesFrame (not b) c.giving.deframer.rest c.next_into.new.frame c.next_into.new.self.rest) c.giving.invariant.finished (c.next_into.ensures.frame c.giving-test.true) in
    rw p.1 (stops_more c.args.r _ _ _ _ _ _ _ _ _ _ _ _ _ _ _ _ _ c.giving.invariant.moves takes c.in_err-convert_frame.ensures.breaks)

pub giving-preserved : goal.giving-preserved
giving-preserved g c =
    let takes = subst (λ (b : Bool). TakesFrame (not b) c.giving.deframer.rest c.next_into.new.frame c.next_into.new.self.rest) c.giving.invariant.finished (c.next_into.ensures.frame c.giving-test.true) in
    record {
      moves = moves_more c.args.r _ _ _ _ _ _ _ _ _ _ _ _ _ _ _ _ _ _ _ c.giving.invariant.moves takes c.in_ok-convert_frame.ensures.goes;
      finished = c.next_into.ensures.finished ∙ c.giving.invariant.finished;
      write = ap (λ f. f.output) c.in_ok-convert_frame.ensures.cause ∙ c.giving.invariant.write;
      told = ap (λ f. f.report) c.in_ok-convert_frame.ensures.cause ∙ c.giving.invariant.told;
      few = c.in_ok-convert_frame.ensures.some;
      room = omega (arith, takes.shorter, c.giving.invariant.room, c.in_ok-convert_frame.ensures.frames);
    }

pub returns-clause-goes : goal.returns-clause-goes
returns-clause-goes g c =
    let none = subst (λ (b : Bool). TakesNone (not b) c.giving.deframer.rest c.next_into.new.self.rest) c.giving.invariant.finished (c.next_into.ensures.none c.giving-test.false) in
    moves_none c.args.r _ _ _ _ _ _ _ _ _ _ _ _ _ _ c.giving.invariant.moves none
