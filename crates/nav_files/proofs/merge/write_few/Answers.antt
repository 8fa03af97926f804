use Rattle.std.proofs.Common.{◌∙◌}
use Rattle.std.proofs.lemmas.Result.{err_from_is_err_and}
use Rattle.streams.specs.ItemTexts.{rinex_item}
use Rattle.nav_files.proofs.KeptLemmas.{cause_behind, next_of, wrote_prefix, wrote_more}
use Rattle.nav_files.proofs.merge.write_few.Goals as goal

pub items-preserved : goal.items-preserved
items-preserved g c = record {
  wrote = wrote_more rinex_item _ _ _ _ _ _ _ (next_of c.args.items.now c.items.item-index c.item-item.result c.items-test.true c.item-item.is)
      c.items.invariant.wrote c.in_ok-write_item.ensures.bytes;
  faults = c.in_ok-write_item.ensures.cause.stays ∙ c.items.invariant.faults;
}

pub returns-in_err-write_item : goal.returns-in_err-write_item
returns-in_err-write_item g c =
    let p = err_from_is_err_and c.from_residual.result c.from_residual.ensures.1 in
    rw (p.1, p.2) (record {
      bytes = wrote_prefix rinex_item _ _ _ _ _ _ _ (next_of c.args.items.now c.items.item-index c.item-item.result c.items-test.true c.item-item.is)
          c.items.invariant.wrote c.in_err-write_item.ensures.bytes;
      cause = cause_behind _ _ _ _ c.items.invariant.faults c.in_err-write_item.ensures.cause;
    })
