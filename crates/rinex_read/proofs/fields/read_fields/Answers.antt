use Rattle.std.proofs.Common.{◌≡◌, ℕ, ◌+◌, ◌-◌, ◌<◌, ◌≤◌, List, length, get_or, take, drop, arith, length-take, length-drop}
use Rattle.rinex_write.specs.declared.columns.Column.{Column}
use Rattle.rinex_read.proofs.RowLemmas.{rows_more, rows_stop, good_take, good_drop, fit_next, sum_next}
use Rattle.rinex_read.proofs.fields.read_fields.Goals as goal

few_more : (at n j old new : ℕ) (cs : List Column) → j ≡ n → at + n ≤ length cs → old ≡ at → new ≡ old + length (take j (drop at cs)) → new ≡ at + n
few_more at n j old new cs e h is count = omega (arith, length-take j (drop at cs), length-drop at cs)

pub read_row-requires-clause-good : goal.read_row-requires-clause-good
read_row-requires-clause-good c = good_take (c.loop-i.at + get_or c.args.layout.now.rows.now c.loop-i.i 0 - c.loop-i.at) (drop c.loop-i.at c.args.layout.now.columns.now) (good_drop c.loop-i.at c.args.layout.now.columns.now c.requires.layout.good)

pub returns-in-Err : goal.returns-in-Err
returns-in-Err c =
    let ns = c.args.layout.now.rows.now in
    let within : c.loop-i.i < length c.args.lines.now = omega (arith, c.requires.lines) in
    let count : c.loop-i.at + get_or ns c.loop-i.i 0 - c.loop-i.at ≡ get_or ns c.loop-i.i 0 = omega arith in
    rows_stop _ ns (drop c.loop-i.at c.args.layout.now.columns.now) c.loop-i.fields.items c.loop-i.i (c.loop-i.at + get_or ns c.loop-i.i 0 - c.loop-i.at) c.loop-i.place c.args.lines.now _ c.in-Err.reason
    c.loop-i-test.true within count c.in-Err.ensures.read c.loop-i.invariant.read

pub loop-i-preserved : goal.loop-i-preserved
loop-i-preserved c =
    let ns = c.args.layout.now.rows.now in
    let within : c.loop-i.i < length c.args.lines.now = omega (arith, c.requires.lines) in
    let count : c.loop-i.at + get_or ns c.loop-i.i 0 - c.loop-i.at ≡ get_or ns c.loop-i.i 0 = omega arith in
    record {
      read = rows_more _ ns c.args.layout.now.columns.now c.loop-i.fields.items c.read_row.new.fields.items c.loop-i.i c.loop-i.at (c.loop-i.at + get_or ns c.loop-i.i 0 - c.loop-i.at) c.loop-i.place c.args.lines.now _
          c.loop-i-test.true within count c.in-Ok.ensures.read c.loop-i.invariant.read;
      count = omega (arith, c.loop-i.invariant.count, sum_next ns c.loop-i.i c.loop-i-test.true);
      few = few_more c.loop-i.at (get_or ns c.loop-i.i 0) (c.loop-i.at + get_or ns c.loop-i.i 0 - c.loop-i.at) (length c.loop-i.fields.items) (length c.read_row.new.fields.items) c.args.layout.now.columns.now
          count (omega (arith, c.loop-i.invariant.count, sum_next ns c.loop-i.i c.loop-i-test.true)) c.loop-i.invariant.few c.in-Ok.ensures.count;
      fit = (fit_next ns c.loop-i.place c.loop-i.i c.loop-i-test.true c.loop-i.invariant.fit).1;
    }
