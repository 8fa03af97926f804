use Rattle.std.proofs.Common.{◌++◌, sym, ◌∙◌}
use Rattle.std.proofs.lemmas.Result.{err_from_is_err_and}
use Rattle.streams.specs.ItemTexts.{rinex_item}
use Rattle.nav_files.proofs.KeptLemmas.{cause_behind, wrote_few, wrote_few_prefix}
use Rattle.nav_files.proofs.merge.write_items.Goals as goal

pub items-preserved : goal.items-preserved
items-preserved g c = record {
  wrote = wrote_few rinex_item _ _ _ _ _ _ _ (c.in-Some.ensures.few ∙ (λ i. sym c.as_slice.ensures i ++ c.next_few.new.self))
      c.items.invariant.wrote c.in_ok-write_few.ensures.bytes;
  faults = c.in_ok-write_few.ensures.cause.stays ∙ c.items.invariant.faults;
}

pub returns-in_err-write_few : goal.returns-in_err-write_few
returns-in_err-write_few g c =
    let p = err_from_is_err_and c.from_residual.result c.from_residual.ensures.1 in
    rw (p.1, p.2) (record {
      bytes = wrote_few_prefix rinex_item _ _ _ _ _ _ _ (c.in-Some.ensures.few ∙ (λ i. sym c.as_slice.ensures i ++ c.next_few.new.self))
          c.items.invariant.wrote c.in_err-write_few.ensures.bytes;
      cause = cause_behind _ _ _ _ c.items.invariant.faults c.in_err-write_few.ensures.cause;
    })
