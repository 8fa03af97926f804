use Rattle.std.proofs.Common.{◌+◌, ◌-◌, ◌∙◌, arith}
use Rattle.nav_bits.proofs.EightBytesWritten.{Puts-copied}
use Rattle.nav_bits.proofs.bit_offsets.put_eight.Goals as goal

pub returns : goal.returns
returns c =
    Puts-copied c.args.bytes.now c.copy_from_slice.new.self c.args.first (c.args.first + 8 - c.args.first) c.args.word
    (omega arith) (omega arith) (omega arith) (c.copy_from_slice.ensures.after ∙ c.to_be_bytes.ensures)
