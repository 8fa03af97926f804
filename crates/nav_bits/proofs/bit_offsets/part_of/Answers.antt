use Rattle.std.proofs.Common.{sym, ◌∙◌, slice_index_or, ◌/◌, ◌-◌, ◌^◌, arith}
use Rattle.nav_bits.specs.Laws.{number_at-part}
use Rattle.nav_bits.proofs.BytePart.{byte_low}
use Rattle.nav_bits.proofs.bit_offsets.part_of.Goals as goal

pub returns : goal.returns
returns c =
    byte_low (slice_index_or c.args.bytes.now c.args.byte 0 / 2 ^ (8 - c.args.skip - c.args.width)) c.args.width (omega arith)
    ∙ sym (number_at-part c.args.bytes.now _ c.args.skip c.args.byte c.args.width (omega arith) (omega arith) c.requires.within)
