-- Rows of a merged list. Private functions cite these.
use Rattle.nav_rows.specs.Kinds.{IsKind}
use Rattle.nav_rows.specs.Order.{KindRow}
use Rattle.nav_rows.specs.Rows.{value}
use Rattle.rinex_write.specs.Columns.{AreFields}
use Rattle.all_systems.specs.declared.row_key.KeptRow.{KeptRow}

-- a row with its kind, and what is known of it
abbrev pub kept_row : KeptRow → KindRow
kept_row x = record { kind = x.kind; row = value x.row }

abbrev pub IsKept : KeptRow → Type 0
IsKept x = IsKind x.kind × AreFields x.kind.layout.columns.now x.row.columns.items
