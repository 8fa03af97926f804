use Rattle.std.proofs.Common.{length, ap, arith}
use Rattle.nav_rows.proofs.EncodeLemmas.{row_is}
use Rattle.nav_rows.proofs.order.compare_rows.Goals as goal

pub bounds-columns-kind : goal.bounds-columns-kind
bounds-columns-kind c =
    let is = row_is c.args.kind.now c.args.row.now.columns.items c.requires.kind c.requires.fields
    in
    omega (arith, is.count, c.requires.kind.sent, ap length c.as_slice-columns.ensures.value)

pub bounds-other_columns-other_kind : goal.bounds-other_columns-other_kind
bounds-other_columns-other_kind c =
    let is = row_is c.args.other_kind.now c.args.other.now.columns.items c.requires.other_kind
    c.requires.other_fields in
    omega (
      arith,
      is.count,
      c.requires.other_kind.sent,
      ap length c.as_slice-other_columns.ensures.value,
    )
