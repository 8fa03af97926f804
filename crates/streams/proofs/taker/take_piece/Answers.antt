use Rattle.std.proofs.Common.{ap, ◌∙◌, length-drop, arith}
use Rattle.std.proofs.lemmas.List.{take_rest}
use Rattle.std.proofs.lemmas.Result.{err_from_is_err_and}
use Rattle.streams.proofs.TakenLemmas.{stops_part, takes_part}
use Rattle.streams.proofs.taker.take_piece.Goals as goal

pub returns-in_err-fed-clause-stops : goal.returns-in_err-fed-clause-stops
returns-in_err-fed-clause-stops g c =
    let p = err_from_is_err_and c.from_residual.result c.from_residual.ensures.1 in
    rw p.1 (stops_part _ _ _ c.loop-fed.invariant.takes (rw (take_rest c.args.piece.now c.loop-fed.fed) at c.in_err-fed.ensures.stops))

pub loop-fed-preserved : goal.loop-fed-preserved
loop-fed-preserved g c = record {
  takes = takes_part _ _ _ _ c.loop-fed.invariant.takes (rw (take_rest c.args.piece.now c.loop-fed.fed) at c.in_ok-fed.ensures.takes);
  may_feed = c.in_ok-fed.ensures.may_feed;
  write = ap (λ f. f.output) c.in_ok-fed.ensures.cause ∙ c.loop-fed.invariant.write;
  told = ap (λ f. f.report) c.in_ok-fed.ensures.cause ∙ c.loop-fed.invariant.told;
  within = omega (arith, c.in_ok-fed.ensures.within, c.loop-fed.invariant.within, rw (take_rest c.args.piece.now c.loop-fed.fed) at c.in_ok-fed.ensures.within, length-drop c.loop-fed.fed c.args.piece.now);
}
