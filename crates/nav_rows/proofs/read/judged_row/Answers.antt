use Rattle.std.proofs.Common.{◌≡◌, true, sym, ap, subst, ◌∙◌}
use Rattle.nav_rows.specs.Encoding.{HasClock}
use Rattle.nav_rows.specs.Reading.{are_in_columns}
use Rattle.nav_rows.proofs.EncodeLemmas.{row_is}
use Rattle.nav_rows.proofs.ReadLemmas.{columns_are}
use Rattle.nav_rows.proofs.read.judged_row.Goals as goal

pub epoch_fault-requires : goal.epoch_fault-requires
epoch_fault-requires c =
    let k = c.args.kind.now in
    let cs = k.layout.columns.now in
    let zs = c.args.said.fields.items in
    let same : are_in_columns cs zs ≡ true
    = sym (c.are_in_columns.ensures ∙ ap (are_in_columns cs) c.as_slice.ensures.value)
    ∙ c.if-not-are_in_columns.false in
    subst (HasClock k.clock) (sym c.as_slice-2.ensures.value)
    (row_is k zs c.requires (columns_are cs zs same)).clock

pub returns-in-None-clause-fields : goal.returns-in-None-clause-fields
returns-in-None-clause-fields c =
    let cs = c.args.kind.now.layout.columns.now in
    let zs = c.args.said.fields.items in
    columns_are cs zs
    (sym (c.are_in_columns.ensures ∙ ap (are_in_columns cs) c.as_slice.ensures.value)
    ∙ c.if-not-are_in_columns.false)
