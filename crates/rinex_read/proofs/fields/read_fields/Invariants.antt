use Rattle.std.proofs.Common.{◌≡◌, ◌+◌, true, drop, length, sum}
use Rattle.rinex_read.specs.Mirrors.{with_prefix, flat_rows, do_fit}
use Rattle.rinex_read.proofs.fields.read_fields.Given as goal

abbrev pub invariant-loop-i : goal.invariant-loop-i
invariant-loop-i l = record {
  read : flat_rows l.layout.rows.now l.layout.columns.now 23 l.lines ≡ with_prefix l.fields.items (flat_rows (drop l.i l.layout.rows.now) (drop l.at l.layout.columns.now) l.place (drop l.i l.lines));
  count : l.at + sum (drop l.i l.layout.rows.now) ≡ length l.layout.columns.now;
  few : length l.fields.items ≡ l.at;
  fit : do_fit l.place (drop l.i l.layout.rows.now) ≡ true;
}
