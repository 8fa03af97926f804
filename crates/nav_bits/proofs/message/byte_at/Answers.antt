use Rattle.std.proofs.Common.{◌+◌, sym}
use Rattle.nav_bits.proofs.MessageLemmas.{aligned_byte, split_byte}
use Rattle.nav_bits.proofs.message.byte_at.Goals as goal

pub returns-then-skip-eq0 : goal.returns-then-skip-eq0
returns-then-skip-eq0 c =
    aligned_byte c.args.bytes.now c.args.byte c.args.skip (c.type_inv.bytes c.args.byte).fits (sym c.if-skip-eq0.true)

pub returns : goal.returns
returns c =
    split_byte c.args.bytes.now c.args.byte c.args.skip (c.type_inv.bytes c.args.byte).fits (c.type_inv.bytes (c.args.byte + 1)).fits c.requires.skip
