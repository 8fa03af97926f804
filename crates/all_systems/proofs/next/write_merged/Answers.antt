use Rattle.std.proofs.Common.{inl, inr, refl, ◌∙◌}
use Rattle.std.proofs.lemmas.Result.{err_from_is_err_and}
use Rattle.all_systems.specs.Merging.{all_entries, entry_text}
use Rattle.all_systems.proofs.Merges.{held_is}
use Rattle.all_systems.proofs.NextEntries.{nav_left, nav_next, record_left, record_next, row_left, row_next}
use Rattle.all_systems.proofs.Wrote.{cause_behind, wrote_more, wrote_none, wrote_prefix}
use Rattle.all_systems.proofs.next.write_merged.Goals as goal

pub items-init : goal.items-init
items-init g c = record {
  wrote = wrote_none (entry_text c.args.to.now) _ _ _ (λ i. all_entries ((held_is _ _ _ c.next-nav.ensures.steps ∙ c.values-navs_left.ensures) i)
      ((held_is _ _ _ c.next-row.ensures.steps ∙ c.values-rows_left.ensures) i) ((held_is _ _ _ c.next-carried.ensures.steps ∙ c.values-records_left.ensures) i));
  faults = refl;
}

pub returns-in_err-put-in-Nav : goal.returns-in_err-put-in-Nav
returns-in_err-put-in-Nav g c =
    let p = err_from_is_err_and c.from_residual.result c.from_residual.ensures.1 in
    let first = nav_next c.items.nav c.items.row c.items.carried c.next_of.result c.in-Some.next c.next_of.ensures c.in-Some.is c.in-Nav.item c.item.result.now c.in-Nav.is c.item.ensures in
    rw (p.1, p.2) (record {
      bytes = wrote_prefix (entry_text c.args.to.now) _ _ _ (inl (inl c.item.result.now)) _ _ _ (first c.items.navs_left c.items.rows_left c.items.records_left)
          c.items.invariant.wrote c.in_err-put-in-Nav.ensures.bytes;
      cause = cause_behind _ _ _ _ c.items.invariant.faults c.in_err-put-in-Nav.ensures.cause;
    })

pub items-preserved-in-Nav : goal.items-preserved-in-Nav
items-preserved-in-Nav g c = record {
  wrote = wrote_more (entry_text c.args.to.now) _ _ _ (inl (inl c.item.result.now)) _ _ _
      (nav_left c.items.nav c.items.row c.items.carried c.next_of.result c.in-Some.next c.next_of.ensures c.in-Some.is c.in-Nav.item c.item.result.now c.items.navs_left c.next-nav-in-Nav.new.self c.items.rows_left c.items.records_left c.next-nav-in-Nav.result
      c.in-Nav.is c.item.ensures c.next-nav-in-Nav.ensures.steps)
      c.items.invariant.wrote c.in_ok-put-in-Nav.ensures.bytes;
  faults = c.in_ok-put-in-Nav.ensures.cause.stays ∙ c.items.invariant.faults;
}

pub returns-in_err-write-in-Further : goal.returns-in_err-write-in-Further
returns-in_err-write-in-Further g c =
    let p = err_from_is_err_and c.from_residual-in_err-write-in-Further.result c.from_residual-in_err-write-in-Further.ensures.1 in
    let first = row_next c.items.nav c.items.row c.items.carried c.next_of.result c.in-Some.next c.next_of.ensures c.in-Some.is c.in-Further.key c.in-Further.is in
    rw (p.1, p.2) (record {
      bytes = wrote_prefix (entry_text c.args.to.now) _ _ _ (inl (inr c.in-Further.key.now)) _ _ _ (first c.items.navs_left c.items.rows_left c.items.records_left)
          c.items.invariant.wrote c.in_err-write-in-Further.ensures.bytes;
      cause = cause_behind _ _ _ _ c.items.invariant.faults c.in_err-write-in-Further.ensures.cause;
    })

pub items-preserved-in-Further : goal.items-preserved-in-Further
items-preserved-in-Further g c = record {
  wrote = wrote_more (entry_text c.args.to.now) _ _ _ (inl (inr c.in-Further.key.now)) _ _ _
      (row_left c.items.nav c.items.row c.items.carried c.next_of.result c.in-Some.next c.next_of.ensures c.in-Some.is c.in-Further.key c.items.navs_left c.items.rows_left c.next-row-in-Further.new.self c.items.records_left c.next-row-in-Further.result
      c.in-Further.is c.next-row-in-Further.ensures.steps)
      c.items.invariant.wrote c.in_ok-write-in-Further.ensures.bytes;
  faults = c.in_ok-write-in-Further.ensures.cause.stays ∙ c.items.invariant.faults;
}

pub returns-in_err-write-in-Carried : goal.returns-in_err-write-in-Carried
returns-in_err-write-in-Carried g c =
    let p = err_from_is_err_and c.from_residual-in_err-write-in-Carried.result c.from_residual-in_err-write-in-Carried.ensures.1 in
    let first = record_next c.items.nav c.items.row c.items.carried c.next_of.result c.in-Some.next c.next_of.ensures c.in-Some.is c.in-Carried.key c.in-Carried.is in
    rw (p.1, p.2) (record {
      bytes = wrote_prefix (entry_text c.args.to.now) _ _ _ (inr c.in-Carried.key.now) _ _ _ (first c.items.navs_left c.items.rows_left c.items.records_left)
          c.items.invariant.wrote c.in_err-write-in-Carried.ensures.bytes;
      cause = cause_behind _ _ _ _ c.items.invariant.faults c.in_err-write-in-Carried.ensures.cause;
    })

pub items-preserved : goal.items-preserved
items-preserved g c = record {
  wrote = wrote_more (entry_text c.args.to.now) _ _ _ (inr c.in-Carried.key.now) _ _ _
      (record_left c.items.nav c.items.row c.items.carried c.next_of.result c.in-Some.next c.next_of.ensures c.in-Some.is c.in-Carried.key c.items.navs_left c.items.rows_left c.items.records_left c.next-carried-in-Carried.new.self c.next-carried-in-Carried.result
      c.in-Carried.is c.next-carried-in-Carried.ensures.steps)
      c.items.invariant.wrote c.in_ok-write-in-Carried.ensures.bytes;
  faults = c.in_ok-write-in-Carried.ensures.cause.stays ∙ c.items.invariant.faults;
}
