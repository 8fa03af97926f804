use Rattle.std.proofs.Common.{List, ℕ, refl, ap, subst, ◌∙◌}
use Rattle.std.proofs.lemmas.Result.{err_from_is_err_and}
use Rattle.std.specs.Io.KnownBytes.{Appends}
use Rattle.nav_io.specs.Causes.{Rose}
use Rattle.nav_io.specs.Prefix.{AppendsPrefix}
use Rattle.streams.proofs.TakenEnds.{all_held, broke_begin, broke_counts, broke_frames, broke_last, done_frames}
use Rattle.streams.proofs.taker.run_taker.Goals as goal

pub returns-in-Err : goal.returns-in-Err
returns-in-Err g c = record {
  ended = broke_begin (g.K.FrameTaker.count c.args.taker.now) (record { grows = c.begins.ensures.grows; text = c.begins.ensures.text; more = c.begins.ensures.more; told = c.begins.ensures.told; silent = c.begins.ensures.silent }) c.in-Err.ensures.bytes c.in-Err.ensures.cause.failed refl refl refl refl;
}

pub returns-in_err-take_pieces : goal.returns-in_err-take_pieces
returns-in_err-take_pieces g c = record {
  ended =
      let p = err_from_is_err_and c.from_residual.result c.from_residual.ensures.1 in
      rw (p.1, p.2)
      (broke_frames (g.K.FrameTaker.count c.args.taker.now) (record { grows = c.begins.ensures.grows; text = c.begins.ensures.text; more = c.begins.ensures.more; told = c.begins.ensures.told; silent = c.begins.ensures.silent }) c.decided_frames_stay.ensures c.requires.nothing
      c.in-Ok.ensures.bytes c.in-Ok.ensures.cause.stays c.in_err-take_pieces.ensures.part c.in_err-take_pieces.ensures.cause c.in_err-take_pieces.ensures.never);
}

pub returns-in-Err-write_last : goal.returns-in-Err-write_last
returns-in-Err-write_last g c = record {
  ended =
      let all = c.in_ok-take_pieces.ensures.all in
      let counted = c.counts-counts.ensures _ (all_held c.requires.nothing all) in
      let cause = c.in_ok-take_pieces.ensures.cause in
      broke_last (g.K.FrameTaker.count c.args.taker.now) _ (record { grows = c.begins.ensures.grows; text = c.begins.ensures.text; more = c.begins.ensures.more; told = c.begins.ensures.told; silent = c.begins.ensures.silent }) c.decided_frames_stay.ensures c.requires.nothing c.in-Ok.ensures.bytes all (c.last_text.ensures _ counted) c.in-Err-write_last.ensures.bytes
      (subst (λ (n : ℕ). Rose n (g.T.Sink.faults c.write_last.new.output)) (ap (λ f. f.output) cause ∙ c.in-Ok.ensures.cause.stays) c.in-Err-write_last.ensures.cause.failed)
      (ap (λ f. f.input) cause) (ap (λ f. f.report) cause);
}

pub returns-in-Ok-write : goal.returns-in-Ok-write
returns-in-Ok-write g c = record {
  ended =
      let all = c.in_ok-take_pieces.ensures.all in
      let counted = c.counts-counts.ensures _ (all_held c.requires.nothing all) in
      let text = subst (λ (l : List ℕ). Appends (g.U.Sink.written c.take_pieces.new.report) (g.U.Sink.written c.write.new.self) l) c.as_slice.ensures.value c.in-Ok-write.ensures.bytes in
      let cause = c.in_ok-take_pieces.ensures.cause in
      done_frames (g.K.FrameTaker.count c.args.taker.now) _ _ (record { grows = c.begins.ensures.grows; text = c.begins.ensures.text; more = c.begins.ensures.more; told = c.begins.ensures.told; silent = c.begins.ensures.silent }) c.requires.nothing c.in-Ok.ensures.bytes all counted (c.last_text.ensures _ counted) c.in-Ok-write_last.ensures.bytes (c.counts_text.ensures _ counted) text
      (ap (λ f. f.input) cause) (c.in-Ok-write_last.ensures.cause.stays ∙ (ap (λ f. f.output) cause ∙ c.in-Ok.ensures.cause.stays)) (c.in-Ok-write.ensures.cause.stays ∙ ap (λ f. f.report) cause);
}

pub returns-in-Err-write : goal.returns-in-Err-write
returns-in-Err-write g c = record {
  ended =
      let all = c.in_ok-take_pieces.ensures.all in
      let counted = c.counts-counts.ensures _ (all_held c.requires.nothing all) in
      let text = subst (λ (l : List ℕ). AppendsPrefix (g.U.Sink.written c.take_pieces.new.report) (g.U.Sink.written c.write.new.self) l) c.as_slice.ensures.value c.in-Err-write.ensures.bytes in
      let cause = c.in_ok-take_pieces.ensures.cause in
      broke_counts (g.K.FrameTaker.count c.args.taker.now) _ _ (record { grows = c.begins.ensures.grows; text = c.begins.ensures.text; more = c.begins.ensures.more; told = c.begins.ensures.told; silent = c.begins.ensures.silent }) c.decided_frames_stay.ensures c.requires.nothing c.in-Ok.ensures.bytes all (c.last_text.ensures _ counted) c.in-Ok-write_last.ensures.bytes (c.counts_text.ensures _ counted) text
      (subst (λ (n : ℕ). Rose n (g.U.Sink.faults c.write.new.self)) (ap (λ f. f.report) cause) c.in-Err-write.ensures.cause.failed)
      (ap (λ f. f.input) cause) (c.in-Ok-write_last.ensures.cause.stays ∙ (ap (λ f. f.output) cause ∙ c.in-Ok.ensures.cause.stays));
}
