use Rattle.c_calls.proofs.Lengths.{too_long_header}
use Rattle.c_calls.proofs.record_writes.header_of.Goals as goal

pub unreachable-requires : goal.unreachable-requires
unreachable-requires c =
    too_long_header c.args.version c.columns_of.result.now c.args.words.now c.new-text.result.bytes c.write_header_of.new.out.bytes c.new-text.result.faults
    c.write_header_of.new.out.faults c.columns_of.ensures c.requires c.new-text.ensures.bytes c.new-text.ensures.faults c.in-Err.ensures.bytes
    c.in-Err.ensures.cause.failed c.bytes-full.ensures.full
