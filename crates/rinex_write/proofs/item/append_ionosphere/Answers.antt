use Rattle.std.proofs.Common.{refl}
use Rattle.rinex_write.specs.Layouts.{gps_ionosphere_kind, galileo_ionosphere_kind}
use Rattle.rinex_write.specs.Texts.{item_lines}
use Rattle.rinex_write.proofs.ItemFields.{gps_ionosphere_ready, galileo_ionosphere_ready, table_gps_ionosphere, table_galileo_ionosphere}
use Rattle.rinex_write.proofs.item.append_ionosphere.Goals as goal

pub append_record-requires-clause-table : goal.append_record-requires-clause-table
append_record-requires-clause-table c = rw (c.gps_ionosphere_layout.ensures.rows, c.gps_ionosphere_layout.ensures.columns) table_gps_ionosphere

pub append_record-requires-clause-ready : goal.append_record-requires-clause-ready
append_record-requires-clause-ready c =
    rw (c.gps_ionosphere_layout.ensures.columns, c.gps_ionosphere_fields-fields.ensures) (gps_ionosphere_ready c.in-Gps.i (rw c.in-Gps.is at c.requires.ranges.content))

pub returns-in-Gps : goal.returns-in-Gps
unfolding item_lines gps_ionosphere_kind
returns-in-Gps c =
    rw c.in-Gps.is
    (rw c.gps_ionosphere_fields-fields.ensures at (c.append_record.ensures gps_ionosphere_kind refl refl c.gps_ionosphere_layout.ensures.columns c.gps_ionosphere_layout.ensures.rows))

pub append_record-requires-in-Gal-clause-table : goal.append_record-requires-in-Gal-clause-table
append_record-requires-in-Gal-clause-table c = rw (c.galileo_ionosphere_layout.ensures.rows, c.galileo_ionosphere_layout.ensures.columns) table_galileo_ionosphere

pub append_record-requires-in-Gal-clause-ready : goal.append_record-requires-in-Gal-clause-ready
append_record-requires-in-Gal-clause-ready c =
    rw (c.galileo_ionosphere_layout.ensures.columns, c.galileo_ionosphere_fields-fields.ensures) (galileo_ionosphere_ready c.in-Gal.i (rw c.in-Gal.is at c.requires.ranges.content))

pub returns-in-Gal : goal.returns-in-Gal
unfolding item_lines galileo_ionosphere_kind
returns-in-Gal c =
    rw c.in-Gal.is
    (rw c.galileo_ionosphere_fields-fields.ensures at (c.append_record-in-Gal.ensures galileo_ionosphere_kind refl refl c.galileo_ionosphere_layout.ensures.columns c.galileo_ionosphere_layout.ensures.rows))
