use Rattle.std.proofs.Common.{get_or}
use Rattle.rinex_write.proofs.RowsLeft.{first_fits, behind_first, ready_take, ready_drop, table_lines}
use Rattle.rinex_write.proofs.record.append_table.Goals as goal

pub split_at-requires-in-len1-up : goal.split_at-requires-in-len1-up
split_at-requires-in-len1-up c = first_fits c.args.layout.now.rows.now c.args.layout.now.columns.now c.args.fields.now c.requires.table.count c.requires.ready c.requires.table.some

pub append_row-requires-clause-ready : goal.append_row-requires-clause-ready
append_row-requires-clause-ready c =
    rw c.split_at.ensures.front (ready_take (get_or c.args.layout.now.rows.now 0 0) c.args.layout.now.columns.now c.args.fields.now c.requires.ready)

pub append_rows-requires-clause-ready : goal.append_rows-requires-clause-ready
append_rows-requires-clause-ready c =
    rw (c.split_at.ensures.back, c.split_at-in-len1-up.ensures.back)
    (ready_drop (get_or c.args.layout.now.rows.now 0 0) c.args.layout.now.columns.now c.args.fields.now c.requires.ready)

pub returns-in-len1-up : goal.returns-in-len1-up
returns-in-len1-up c rows e f =
    table_lines _ _ _ _ c.args.layout.now.rows.now c.args.layout.now.columns.now _ _ c.args.fields.now _ _ rows c.requires.table.some e f
    c.split_at.ensures.front c.split_at.ensures.back c.split_at-in-len1-up.ensures.back
    c.append_row.ensures.items c.append.ensures.items
    (behind_first c.args.layout.now.rows.now) c.append_rows.ensures.items
