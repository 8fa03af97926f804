use Rattle.std.proofs.Common.{ap, ◌∙◌, length-drop, arith}
use Rattle.std.proofs.lemmas.List.{take_rest}
use Rattle.std.proofs.lemmas.Result.{err_from_is_err_and}
use Rattle.streams.proofs.MoveLemmas.{moves_part, stops_part}
use Rattle.streams.proofs.frames.process_piece.Goals as goal

pub returns-in_err-fed-clause-breaks : goal.returns-in_err-fed-clause-breaks
returns-in_err-fed-clause-breaks g c =
    let p = err_from_is_err_and c.from_residual.result c.from_residual.ensures.1 in
    rw p.1 (stops_part c.args.r _ _ _ _ _ _ _ _ _ _ _ _ _ _ _ _ c.loop-fed.invariant.moves (rw (take_rest c.args.piece.now c.loop-fed.fed) at c.in_err-fed.ensures.breaks))

pub loop-fed-preserved : goal.loop-fed-preserved
loop-fed-preserved g c = record {
  moves = moves_part c.args.r _ _ _ _ _ _ _ _ _ _ _ _ _ _ _ _ _ _ _ _ c.loop-fed.invariant.moves (rw (take_rest c.args.piece.now c.loop-fed.fed) at c.in_ok-fed.ensures.goes);
  may_feed = c.in_ok-fed.ensures.may_feed;
  write = ap (λ f. f.output) c.in_ok-fed.ensures.cause ∙ c.loop-fed.invariant.write;
  told = ap (λ f. f.report) c.in_ok-fed.ensures.cause ∙ c.loop-fed.invariant.told;
  few = c.in_ok-fed.ensures.some;
  room = omega (arith, c.in_ok-fed.ensures.room, c.loop-fed.invariant.room);
  within = omega (arith, c.in_ok-fed.ensures.within, c.loop-fed.invariant.within, rw (take_rest c.args.piece.now c.loop-fed.fed) at c.in_ok-fed.ensures.within, length-drop c.loop-fed.fed c.args.piece.now);
}
