use Rattle.std.proofs.Common.{List, ℕ, subst, ◌∙◌}
use Rattle.std.proofs.lemmas.Result.{err_from_is_err_and}
use Rattle.std.specs.Io.KnownBytes.{Appends}
use Rattle.nav_io.specs.Prefix.{AppendsPrefix}
use Rattle.nav_files.specs.Archives.{cover_line}
use Rattle.nav_files.proofs.KeptLemmas.{cause_behind, wrote_prefix, wrote_more}
use Rattle.nav_files.proofs.cover.write_ranges.Goals as goal

pub lines-preserved : goal.lines-preserved
lines-preserved g c =
    let text = subst (λ (l : List ℕ). Appends (g.T.Sink.written c.lines.out) (g.T.Sink.written c.write.new.self) l) (c.as_slice.ensures.value ∙ c.range_line.ensures) c.in_ok-write.ensures.bytes in
    record {
      wrote = wrote_more cover_line _ _ _ _ _ _ _ c.in-Some.ensures.first c.lines.invariant.wrote text;
      faults = c.in_ok-write.ensures.cause.stays ∙ c.lines.invariant.faults;
    }

pub returns-in_err-write : goal.returns-in_err-write
returns-in_err-write g c =
    let p = err_from_is_err_and c.from_residual.result c.from_residual.ensures.1 in
    let text = subst (λ (l : List ℕ). AppendsPrefix (g.T.Sink.written c.lines.out) (g.T.Sink.written c.write.new.self) l) (c.as_slice.ensures.value ∙ c.range_line.ensures) c.in_err-write.ensures.bytes in
    rw (p.1, p.2) (record {
      bytes = wrote_prefix cover_line _ _ _ _ _ _ _ c.in-Some.ensures.first c.lines.invariant.wrote text;
      cause = cause_behind _ _ _ _ c.lines.invariant.faults c.in_err-write.ensures.cause;
    })
