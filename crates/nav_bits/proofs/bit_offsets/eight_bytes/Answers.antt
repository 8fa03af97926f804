use Rattle.std.proofs.Common.{◌∙◌, arith}
use Rattle.nav_bits.proofs.EightBytes.{eight_bytes_are}
use Rattle.nav_bits.proofs.bit_offsets.eight_bytes.Goals as goal

pub returns : goal.returns
returns c = c.from_be_bytes.ensures ∙ eight_bytes_are c.args.bytes.now c.args.first (λ i. omega (arith, c.type_inv.bytes i))
