use Rattle.std.proofs.Common.{◌+◌, ◌*◌, ◌≤◌, ◌++◌, length, drop}
use Rattle.arrayvec.specs.ArrayVec.{array_vec_len}
use Rattle.rinex_write.specs.Mirrors.{rows_text, RowsSoFar}
use Rattle.rinex_write.proofs.record.append_rows.Given as goal

abbrev pub invariant-loop-row : goal.invariant-loop-row
invariant-loop-row l =
    RowsSoFar (l.initial.text.items ++ rows_text l.rows l.initial.columns l.initial.fields) l.text.items (drop l.row-index l.rows) l.columns l.fields
    × (array_vec_len l.text + 5 * length (drop l.row-index l.rows) + 19 * length l.columns ≤ 704)
