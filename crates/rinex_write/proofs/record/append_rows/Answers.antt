use Rattle.std.proofs.Common.{◌+◌, ◌++◌, get_or, arith, subst, sym, ap, ◌∙◌, length-drop}
use Rattle.rinex_write.specs.Columns.{row_text}
use Rattle.rinex_write.specs.Mirrors.{AreReady}
use Rattle.rinex_write.proofs.RowsLeft.{ready_take, row_fits, rows_after}
use Rattle.rinex_write.proofs.record.append_rows.Goals as goal

pub split_at-requires-in-loop-row : goal.split_at-requires-in-loop-row
split_at-requires-in-loop-row c = (row_fits _ _ c.args.rows.now _ _ c.loop-row.row-index c.loop-row.invariant.0 c.loop-row-test.true).1

pub append_row-requires-clause-ready : goal.append_row-requires-clause-ready
append_row-requires-clause-ready c =
    subst (λ a. AreReady a c.loop-row.fields.now) (sym c.split_at.ensures.front)
    (ready_take (get_or c.args.rows.now c.loop-row.row-index 0) c.loop-row.columns.now c.loop-row.fields.now c.loop-row.invariant.0.ready)

pub loop-row-preserved : goal.loop-row-preserved
loop-row-preserved c =
    let second = c.append_row.ensures.items ∙ ap (λ a. c.append.new.text.items ++ row_text a c.loop-row.fields.now) c.split_at.ensures.front in
    let after = rows_after _ _ _ _ _ c.args.rows.now c.loop-row.columns.now c.loop-row.fields.now c.loop-row.row-index c.loop-row.invariant.0
    c.loop-row-test.true c.append.ensures.items second c.append-in-loop-row.ensures.items in (
      rw (c.split_at.ensures.back, c.split_at-in-loop-row.ensures.back) after,
      omega (
        arith,
        c.append.ensures.len,
        c.append_row.ensures.len,
        c.append-in-loop-row.ensures.len,
        c.split_at.ensures.front_len,
        c.split_at.ensures.back_len,
        c.loop-row.invariant.1,
        c.loop-row-test.true,
        length-drop c.loop-row.row-index c.args.rows.now,
        length-drop (c.loop-row.row-index + 1) c.args.rows.now,
      ),
    )
