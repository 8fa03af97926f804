use Rattle.std.proofs.Common.{◌≡◌, true, false, ◌∙◌}
use Rattle.std.proofs.lemmas.Result.{err_from_is_err_and}
use Rattle.nav_files.proofs.WalkLemmas.{seen_all, some_seen, text_next}
use Rattle.nav_files.proofs.WriteLemmas.{cause_failed, wrote_all, wrote_more, wrote_prefix}
use Rattle.nav_files.proofs.walk.write_differences.Goals as goal

pub differences-preserved : goal.differences-preserved
differences-preserved g c = record {
  wrote = wrote_more _ _ _ _ _ _ _ (text_next _ _ _ c.in-Some.ensures) c.differences.invariant.wrote c.in_ok-write_difference.ensures.bytes;
  faults = c.in_ok-write_difference.ensures.cause.stays ∙ c.differences.invariant.faults;
  none = λ is. absurd (let never : false ≡ true = is in cc);
  some = λ is. some_seen _ _ _ _ _ c.differences.invariant.none c.differences.invariant.some c.in-Some.ensures;
}

pub returns-in_err-write_difference-clause-writes : goal.returns-in_err-write_difference-clause-writes
returns-in_err-write_difference-clause-writes g c =
    let p = err_from_is_err_and c.from_residual.result c.from_residual.ensures.1 in
    rw (p.1, p.2) (record {
      bytes = wrote_prefix _ _ _ _ _ _ _ (text_next _ _ _ c.in-Some.ensures) c.differences.invariant.wrote c.in_err-write_difference.ensures.bytes;
      cause = cause_failed _ _ _ _ c.differences.invariant.faults c.in_err-write_difference.ensures.cause;
    })
