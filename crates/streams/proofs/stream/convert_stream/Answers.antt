use Rattle.std.proofs.Common.{List, ℕ, refl, ap, subst, ◌∙◌}
use Rattle.std.proofs.lemmas.Result.{err_from_is_err_and}
use Rattle.std.specs.Io.KnownBytes.{Appends}
use Rattle.nav_io.specs.Causes.{Rose}
use Rattle.nav_io.specs.Prefix.{AppendsPrefix}
use Rattle.streams.proofs.StreamEnds.{broke_begin, broke_counts, broke_stream, done_stream}
use Rattle.streams.proofs.stream.convert_stream.Goals as goal

pub returns-in-Err : goal.returns-in-Err
returns-in-Err g c = record {
  ended =
      broke_begin c.args.r _ _ _ _ c.in-Err.ensures.bytes c.in-Err.ensures.cause.failed refl refl refl refl;
}

pub returns-in_err-process_pieces : goal.returns-in_err-process_pieces
returns-in_err-process_pieces g c = record {
  ended =
      let p = err_from_is_err_and c.from_residual.result c.from_residual.ensures.1 in
      rw (p.1, p.2)
      (broke_stream c.args.r _ _ _ _ _ _ _ _ _ _ _ c.decided_frames_stay.ensures c.in-Ok.ensures.bytes c.in-Ok.ensures.cause.stays (c.new-given.ensures.none, c.new-given.ensures.kept) c.new-counts.ensures
      c.in_err-process_pieces.ensures.part c.in_err-process_pieces.ensures.cause c.in_err-process_pieces.ensures.never);
}

pub returns-in-Ok-write : goal.returns-in-Ok-write
returns-in-Ok-write g c = record {
  ended =
      let text = subst (λ (l : List ℕ). Appends (g.U.Sink.written c.process_pieces.new.report) (g.U.Sink.written c.write.new.self) l) (c.as_slice.ensures.value ∙ c.stream_counts_text.ensures) c.in-Ok-write.ensures.bytes in
      let cause = c.in_ok-process_pieces.ensures.cause in
      done_stream c.args.r _ _ _ _ _ _ _ _ _ _ c.in-Ok.ensures.bytes (c.new-given.ensures.none, c.new-given.ensures.kept) c.new-counts.ensures c.in_ok-process_pieces.ensures.all text
      (ap (λ f. f.input) cause) (ap (λ f. f.output) cause ∙ c.in-Ok.ensures.cause.stays) (c.in-Ok-write.ensures.cause.stays ∙ ap (λ f. f.report) cause);
}

pub returns : goal.returns
returns g c = record {
  ended =
      let cause = c.in_ok-process_pieces.ensures.cause in
      let text = subst (λ (l : List ℕ). AppendsPrefix (g.U.Sink.written c.process_pieces.new.report) (g.U.Sink.written c.write.new.self) l) (c.as_slice.ensures.value ∙ c.stream_counts_text.ensures) c.in-Err-write.ensures.bytes in
      broke_counts c.args.r _ _ _ _ _ _ _ _ _ _ c.decided_frames_stay.ensures c.in-Ok.ensures.bytes (c.new-given.ensures.none, c.new-given.ensures.kept) c.new-counts.ensures c.in_ok-process_pieces.ensures.all text
      (subst (λ (n : ℕ). Rose n (g.U.Sink.faults c.write.new.self)) (ap (λ f. f.report) cause) c.in-Err-write.ensures.cause.failed)
      (ap (λ f. f.input) cause) (ap (λ f. f.output) cause ∙ c.in-Ok.ensures.cause.stays);
}
