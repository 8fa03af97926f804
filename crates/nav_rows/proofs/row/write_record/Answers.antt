use Rattle.std.proofs.Common.{refl, sym, subst}
use Rattle.rinex_write.specs.Mirrors.{AreReady}
use Rattle.nav_rows.specs.Rows.{record_kind}
use Rattle.nav_rows.proofs.RowLemmas.{ready, rows_are}
use Rattle.nav_rows.proofs.row.write_record.Goals as goal

pub write_row-requires-clause-ready : goal.write_row-requires-clause-ready
write_row-requires-clause-ready g c =
    subst (AreReady c.args.kind.now.layout.columns.now) (sym c.as_slice.ensures.value)
    (ready c.args.kind.now c.args.row.now.columns.items c.requires.kind c.requires.fields)

pub returns : goal.returns
returns g c =
    let rows = rows_are c.args.kind.now c.requires.kind in
    rw (← c.as_slice.ensures.value, ← c.head_of.ensures.letter, ← c.head_of.ensures.number)
    (c.write_row.ensures (record_kind c.args.kind.now) c.head_of.ensures.class c.head_of.ensures.message rows.columns rows.rows)
