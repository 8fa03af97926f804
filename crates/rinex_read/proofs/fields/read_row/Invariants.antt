use Rattle.std.proofs.Common.{◌≡◌, ◌+◌, ◌*◌, drop, length}
use Rattle.rinex_read.specs.Fields.{read_row}
use Rattle.rinex_read.specs.Mirrors.{with_prefix}
use Rattle.rinex_read.proofs.fields.read_row.Given as goal

abbrev pub invariant-loop-i : goal.invariant-loop-i
invariant-loop-i l =
    (with_prefix l.fn.fields.items (read_row l.columns_of_row l.place l.line)
    ≡ with_prefix l.fields.items (read_row (drop l.i l.columns_of_row) (l.place + 19 * l.i) l.line))
    × (length l.fields.items ≡ length l.fn.fields.items + l.i)
