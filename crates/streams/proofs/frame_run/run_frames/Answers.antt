use Rattle.std.proofs.Common.{◌≡◌, ◌∙◌, ℕ, false, true, refl, subst, arith}
use Rattle.nav_io.specs.Causes.{Rose}
use Rattle.streams.specs.FrameLines.{line_of}
use Rattle.streams.proofs.SoFar.{broke_last, broke_long, broke_piece, broke_read, done_frames, so_far_piece, so_far_start}
use Rattle.streams.proofs.frame_run.run_frames.Goals as goal

pub loop-taken-init : goal.loop-taken-init
loop-taken-init g c = record {
  so_far = so_far_start line_of _ _ _ c.new-deframer.ensures.rest c.new-deframer.ensures.finished;
  read = refl;
  write = refl;
  never = λ quiet. quiet;
}

pub returns-in-Err : goal.returns-in-Err
returns-in-Err g c = record {
  ended =
      broke_read _ _ _ _ _ _ c.decided_frames_stay.ensures (record { report = refl; told = refl; failed = refl }) c.loop-taken.invariant.so_far c.in-Err.ensures.bytes
      (subst (λ (n : ℕ). Rose n (g.S.Source.faults c.read_piece.new.source)) c.loop-taken.invariant.read c.in-Err.ensures.cause.failed)
      c.loop-taken.invariant.write
      (λ quiet. let none : false ≡ true = (c.in-Err.ensures.never (c.loop-taken.invariant.never quiet)).0 in cc);
}

pub returns-in-Ok-process_frames : goal.returns-in-Ok-process_frames
returns-in-Ok-process_frames g c = record {
  ended =
      done_frames _ _ _ _ _ _ _ _ _ _ _ _ (record { report = refl; told = refl; failed = refl }) c.loop-taken.invariant.so_far (omega arith) c.in-Ok-eq0.field-0-test c.in-Ok-eq0.ensures.bytes.0
      (c.in-Ok-eq0.ensures.bytes.1 c.in-Ok-eq0.field-0-test) c.finish.ensures.rest c.finish.ensures.finished c.in-Ok-process_frames.ensures.last c.in-Ok-process_frames.ensures.goes
      (c.in-Ok-eq0.ensures.cause.stays ∙ c.loop-taken.invariant.read) (c.in-Ok-process_frames.ensures.cause.stays ∙ c.loop-taken.invariant.write);
}

pub returns-in-Err-process_frames : goal.returns-in-Err-process_frames
returns-in-Err-process_frames g c = record {
  ended =
      broke_last _ _ _ _ _ _ _ _ _ _ c.decided_frames_stay.ensures (record { report = refl; told = refl; failed = refl }) c.loop-taken.invariant.so_far c.in-Ok-eq0.field-0-test c.in-Ok-eq0.ensures.bytes.0
      (c.in-Ok-eq0.ensures.bytes.1 c.in-Ok-eq0.field-0-test) c.finish.ensures.rest c.finish.ensures.finished c.in-Err-process_frames.ensures.breaks
      (subst (λ (n : ℕ). Rose n (g.T.Sink.faults c.process_frames.new.output)) c.loop-taken.invariant.write c.in-Err-process_frames.ensures.cause.failed)
      (c.in-Ok-eq0.ensures.cause.stays ∙ c.loop-taken.invariant.read);
}

pub loop-taken-preserved : goal.loop-taken-preserved
loop-taken-preserved g c = record {
  so_far = so_far_piece line_of _ _ _ _ _ _ _ _ _ _ _ _ _ c.loop-taken.invariant.so_far c.in-Ok.ensures.bytes.0 c.in-Ok.ensures.count (omega (arith, c.in-Ok.ensures.most))
      c.in-Ok-process_piece.ensures.goes c.in-Ok-process_piece.ensures.may_feed c.in-Ok-process_piece.ensures.room;
  read = c.in-Ok.ensures.cause.stays ∙ c.loop-taken.invariant.read;
  write = c.in-Ok-process_piece.ensures.cause.stays ∙ c.loop-taken.invariant.write;
  never = λ quiet. (c.in-Ok.ensures.never (c.loop-taken.invariant.never quiet)).1;
}

pub returns-in-Err-process_piece : goal.returns-in-Err-process_piece
returns-in-Err-process_piece g c = record {
  ended =
      broke_piece _ _ _ _ _ _ _ _ c.decided_frames_stay.ensures (record { report = refl; told = refl; failed = refl }) c.loop-taken.invariant.so_far c.in-Ok.ensures.bytes.0
      (omega (arith, c.in-Ok.ensures.count, c.in-Ok.ensures.within)) c.in-Err-process_piece.ensures.breaks
      (subst (λ (n : ℕ). Rose n (g.T.Sink.faults c.process_piece.new.output)) c.loop-taken.invariant.write c.in-Err-process_piece.ensures.cause.failed)
      (c.in-Ok.ensures.cause.stays ∙ c.loop-taken.invariant.read);
}

pub returns : goal.returns
returns g c = record {
  ended =
      broke_long _ _ _ _ _ c.decided_frames_stay.ensures (record { report = refl; told = refl; failed = refl }) c.loop-taken.invariant.so_far (omega arith) c.loop-taken.invariant.read c.loop-taken.invariant.write;
}
