use Rattle.c_calls.proofs.Lengths.{too_long4}
use Rattle.c_calls.proofs.record_writes.record4.Goals as goal

pub unreachable-requires : goal.unreachable-requires
unreachable-requires c =
    too_long4 c.args.item.now c.new-text.result.bytes c.write_item.new.out.bytes c.new-text.result.faults c.write_item.new.out.faults c.new-text.ensures.bytes
    c.new-text.ensures.faults c.in-Err.ensures.bytes c.in-Err.ensures.cause.failed c.bytes-full.ensures.full
