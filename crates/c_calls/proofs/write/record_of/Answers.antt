use Rattle.c_calls.proofs.RowLengths.{too_long}
use Rattle.c_calls.proofs.write.record_of.Goals as goal

pub unreachable-requires : goal.unreachable-requires
unreachable-requires c =
    too_long c.args.kind.now (record { number = c.args.row.now.number; moment = c.args.row.now.moment; columns = c.args.row.now.columns.items })
    c.new-text.result.bytes c.write_record.new.out.bytes c.new-text.result.faults c.write_record.new.out.faults c.requires.kind c.new-text.ensures.bytes
    c.new-text.ensures.faults c.in-Err.ensures.bytes c.in-Err.ensures.cause.failed c.bytes-full.ensures.full
