use Rattle.std.proofs.Common.{◌∙◌, length-drop, arith}
use Rattle.std.proofs.lemmas.List.{take_rest}
use Rattle.std.proofs.lemmas.Result.{err_from_is_err_and}
use Rattle.streams.specs.FrameLines.{line_of}
use Rattle.streams.proofs.Feeding.{goes_part, breaks_part}
use Rattle.streams.proofs.frame_run.process_piece.Goals as goal

pub returns-in_err-fed-clause-breaks : goal.returns-in_err-fed-clause-breaks
returns-in_err-fed-clause-breaks g c =
    let p = err_from_is_err_and c.from_residual.result c.from_residual.ensures.1 in
    rw p.1 (breaks_part line_of _ _ _ _ _ _ _ _ _ c.loop-fed.invariant.goes (rw (take_rest c.args.piece.now c.loop-fed.fed) at c.in_err-fed.ensures.breaks))

pub loop-fed-preserved : goal.loop-fed-preserved
loop-fed-preserved g c = record {
  goes = goes_part line_of _ _ _ _ _ _ _ _ _ _ _ _ c.loop-fed.invariant.goes (rw (take_rest c.args.piece.now c.loop-fed.fed) at c.in_ok-fed.ensures.goes);
  may_feed = c.in_ok-fed.ensures.may_feed;
  faults = c.in_ok-fed.ensures.cause.stays ∙ c.loop-fed.invariant.faults;
  room = omega (arith, c.in_ok-fed.ensures.room, c.loop-fed.invariant.room);
  within = omega (arith, c.in_ok-fed.ensures.within, c.loop-fed.invariant.within, rw (take_rest c.args.piece.now c.loop-fed.fed) at c.in_ok-fed.ensures.within, length-drop c.loop-fed.fed c.args.piece.now);
}
