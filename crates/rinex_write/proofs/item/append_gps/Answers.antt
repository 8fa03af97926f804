use Rattle.std.proofs.Common.{refl}
use Rattle.rinex_write.specs.Layouts.{gps_kind}
use Rattle.rinex_write.specs.Texts.{item_lines}
use Rattle.rinex_write.proofs.ItemFields.{gps_ready, table_gps}
use Rattle.rinex_write.proofs.item.append_gps.Goals as goal

pub append_record-requires-clause-table : goal.append_record-requires-clause-table
append_record-requires-clause-table c = rw (c.gps_layout.ensures.rows, c.gps_layout.ensures.columns) table_gps

pub append_record-requires-clause-ready : goal.append_record-requires-clause-ready
append_record-requires-clause-ready c =
    rw (c.gps_layout.ensures.columns, c.gps_fields-fields.ensures.same) (gps_ready c.args.e.now c.requires.ranges c.gps_fields-fields.ensures.sent)

pub returns : goal.returns
unfolding item_lines gps_kind
returns c =
    rw (c.satellite_start-start.ensures, c.gps_epoch.ensures, c.gps_fields-fields.ensures.same)
    at (c.append_record.ensures gps_kind refl refl c.gps_layout.ensures.columns c.gps_layout.ensures.rows)
