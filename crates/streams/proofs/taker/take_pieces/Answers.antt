use Rattle.std.proofs.Common.{◌∙◌, refl, ap, arith}
use Rattle.streams.proofs.PieceEnds.{if_err2}
use Rattle.streams.proofs.StreamLemmas.{on_ok2}
use Rattle.streams.proofs.TakenEnds.{part_of_last, part_of_long, part_of_piece, part_of_read, so_far_piece, so_far_start, takes_all}
use Rattle.streams.proofs.taker.take_pieces.Goals as goal

pub returns-in-Err-clause-part : goal.returns-in-Err-clause-part
returns-in-Err-clause-part g c = part_of_read c.loop-taken.invariant.so_far c.in-Err.ensures.bytes

pub returns-in-Ok-eq0-clause-all : goal.returns-in-Ok-eq0-clause-all
returns-in-Ok-eq0-clause-all g c =
    on_ok2 c.take_frames.result c.take_frames.ensures.takes c.take_frames.ensures.last
    (λ takes last.
    takes_all _ c.loop-taken.invariant.so_far (omega arith) c.in-Ok-eq0.field-0-test c.in-Ok-eq0.ensures.bytes.0
    (c.in-Ok-eq0.ensures.bytes.1 c.in-Ok-eq0.field-0-test) c.finish.ensures.rest c.finish.ensures.finished takes last)

pub returns-in-Ok-eq0-clause-part : goal.returns-in-Ok-eq0-clause-part
returns-in-Ok-eq0-clause-part g c =
    if_err2 c.take_frames.result c.take_frames.ensures.stops c.take_frames.ensures.kinds
    (λ fault stops kind.
    part_of_last _ c.loop-taken.invariant.so_far (omega arith) c.in-Ok-eq0.field-0-test c.in-Ok-eq0.ensures.bytes.0 (c.in-Ok-eq0.ensures.bytes.1 c.in-Ok-eq0.field-0-test)
    c.finish.ensures.rest c.finish.ensures.finished stops kind)

pub loop-taken-init : goal.loop-taken-init
loop-taken-init g c = record {
  so_far = so_far_start c.new-deframer.ensures.rest c.new-deframer.ensures.finished;
  limit = omega arith;
  read = refl;
  write = refl;
  told = refl;
  never = λ quiet. quiet;
}

pub loop-taken-preserved : goal.loop-taken-preserved
loop-taken-preserved g c =
    let took = c.in-Ok-take_piece.ensures in
    record {
      so_far = so_far_piece _ c.loop-taken.invariant.so_far c.in-Ok.ensures.bytes.0 c.in-Ok.ensures.count took.takes took.may_feed;
      limit = omega (arith, c.in-Ok.ensures.most);
      read = c.in-Ok.ensures.cause.stays ∙ c.loop-taken.invariant.read;
      write = ap (λ f. f.output) took.cause ∙ c.loop-taken.invariant.write;
      told = ap (λ f. f.report) took.cause ∙ c.loop-taken.invariant.told;
      never = λ quiet. (c.in-Ok.ensures.never (c.loop-taken.invariant.never quiet)).1;
    }

pub returns-in-Err-take_piece-clause-part : goal.returns-in-Err-take_piece-clause-part
returns-in-Err-take_piece-clause-part g c =
    part_of_piece _ c.loop-taken.invariant.so_far c.in-Ok.ensures.bytes.0 (omega (arith, c.in-Ok.ensures.count, c.in-Ok.ensures.within)) c.in-Ok.ensures.count c.in-Ok.ensures.most
    c.in-Err-take_piece.ensures.stops c.in-Err-take_piece.ensures.kinds (record { same = c.fault_at.ensures.same; memory = c.fault_at.ensures.memory })

pub returns-clause-part : goal.returns-clause-part
returns-clause-part g c = part_of_long c.loop-taken.invariant.so_far (omega (arith, c.loop-taken.invariant.limit))
