use Rattle.std.proofs.Common.{Bool, not, subst, ap, ◌∙◌, arith}
use Rattle.std.proofs.lemmas.Result.{err_from_is_err_and}
use Rattle.framing.specs.State.{TakesFrame, TakesNone}
use Rattle.streams.proofs.TakenLemmas.{room_left, stops_more, takes_more, takes_none}
use Rattle.streams.proofs.taker.take_frames.Goals as goal

pub take-requires : goal.take-requires
take-requires g c = record {
  few =
      let takes = subst (λ (b : Bool). TakesFrame (not b) c.giving.deframer.rest c.next_into.new.frame c.next_into.new.self.rest) c.giving.invariant.finished (c.next_into.ensures.frame c.giving-test.true) in
      room_left _ _ c.requires.few c.giving.invariant.takes (omega (arith, takes.shorter));
}

pub returns-in_err-take-clause-stops : goal.returns-in_err-take-clause-stops
returns-in_err-take-clause-stops g c =
    let p = err_from_is_err_and c.from_residual.result c.from_residual.ensures.1 in
    let takes = subst (λ (b : Bool). TakesFrame (not b) c.giving.deframer.rest c.next_into.new.frame c.next_into.new.self.rest) c.giving.invariant.finished (c.next_into.ensures.frame c.giving-test.true) in
    rw p.1 (stops_more c.giving.invariant.takes takes c.in_err-take.ensures.unwritten c.in_err-take.ensures.unreported)

pub giving-preserved : goal.giving-preserved
giving-preserved g c =
    let takes = subst (λ (b : Bool). TakesFrame (not b) c.giving.deframer.rest c.next_into.new.frame c.next_into.new.self.rest) c.giving.invariant.finished (c.next_into.ensures.frame c.giving-test.true) in
    let took = c.in_ok-take.ensures in
    record {
      takes = takes_more c.giving.invariant.takes takes took.held took.output took.report;
      finished = c.next_into.ensures.finished ∙ c.giving.invariant.finished;
      write = ap (λ f. f.output) took.cause ∙ c.giving.invariant.write;
      told = ap (λ f. f.report) took.cause ∙ c.giving.invariant.told;
    }

pub returns-clause-takes : goal.returns-clause-takes
returns-clause-takes g c =
    let none = subst (λ (b : Bool). TakesNone (not b) c.giving.deframer.rest c.next_into.new.self.rest) c.giving.invariant.finished (c.next_into.ensures.none c.giving-test.false) in
    takes_none c.giving.invariant.takes none
