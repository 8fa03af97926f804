use Rattle.std.proofs.Common.{sym}
use Rattle.nav_tables.proofs.Surface.{all_in_range}
use Rattle.nav_rows.proofs.encode.judged.Goals as goal

pub returns-else-has_spare_sisa-clause-range : goal.returns-else-has_spare_sisa-clause-range
returns-else-has_spare_sisa-clause-range c =
    all_in_range 0 c.args.kind.now.table.fields.now c.args.numbers.now c.requires.count
    (sym c.in-None.ensures)
