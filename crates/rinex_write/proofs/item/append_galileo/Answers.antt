use Rattle.std.proofs.Common.{refl}
use Rattle.rinex_write.specs.Layouts.{galileo_kind}
use Rattle.rinex_write.specs.Texts.{item_lines}
use Rattle.rinex_write.proofs.ItemFields.{galileo_ready, table_galileo}
use Rattle.rinex_write.proofs.item.append_galileo.Goals as goal

pub append_record-requires-clause-table : goal.append_record-requires-clause-table
append_record-requires-clause-table c = rw (c.galileo_layout.ensures.rows, c.galileo_layout.ensures.columns) table_galileo

pub append_record-requires-clause-ready : goal.append_record-requires-clause-ready
append_record-requires-clause-ready c =
    rw (c.galileo_layout.ensures.columns, c.galileo_fields-fields.ensures.same) (galileo_ready c.args.e.now c.requires.ranges c.galileo_fields-fields.ensures.sent)

pub returns : goal.returns
unfolding item_lines galileo_kind
returns c =
    rw (c.satellite_start-start.ensures, c.galileo_epoch.ensures, c.galileo_fields-fields.ensures.same)
    at (c.append_record.ensures galileo_kind refl refl c.galileo_layout.ensures.columns c.galileo_layout.ensures.rows)
