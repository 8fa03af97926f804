use Rattle.std.proofs.Common.{◌≡◌, ◌+◌, ◌*◌, ◌++◌, drop}
use Rattle.arrayvec.specs.ArrayVec.{array_vec_len}
use Rattle.rinex_write.specs.Columns.{row_text}
use Rattle.rinex_write.specs.Mirrors.{RowSoFar}
use Rattle.rinex_write.proofs.record.append_row.Given as goal

abbrev pub invariant-loop-i : goal.invariant-loop-i
invariant-loop-i l =
    RowSoFar (l.initial.text.items ++ row_text l.columns l.fields) l.text.items (drop l.i l.columns) (drop l.i l.fields)
    × (array_vec_len l.text ≡ array_vec_len l.initial.text + 19 * l.i)
