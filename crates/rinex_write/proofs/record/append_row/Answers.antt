use Rattle.std.proofs.Common.{◌≡◌, arith, rules, slice_index_or, pos, ap, length, FitsSigned, w64}
use Rattle.std.proofs.lemmas.Int.{to_z-of_z}
use Rattle.rinex_write.specs.declared.columns.Column.{Column}
use Rattle.rinex_write.specs.Columns.{column_text}
use Rattle.rinex_write.proofs.Rows.{field_left, length-column_text, row_after, no_column}
use Rattle.rinex_write.proofs.record.append_row.Goals as goal

pub bounds-fields-i : goal.bounds-fields-i
bounds-fields-i c = field_left c.args.columns.now c.args.fields.now c.loop-i.i c.loop-i.invariant.0.ready c.loop-i-test.true

pub loop-i-preserved : goal.loop-i-preserved
loop-i-preserved c =
    let column : Column = slice_index_or c.args.columns.now c.loop-i.i no_column in
    let z = slice_index_or c.args.fields.now c.loop-i.i (pos 0) in
    let field : FitsSigned w64 z = search rules in
    let text : c.column_text.result ≡ column_text column z = simp to_z-of_z at c.column_text.ensures in (
      row_after _ _ _ _ c.args.columns.now c.args.fields.now c.loop-i.i c.loop-i.invariant.0 c.loop-i-test.true c.append.ensures.items text,
      omega (arith, c.append.ensures.len, ap length text, length-column_text column z, c.loop-i.invariant.1),
    )
