use Rattle.nav_bits.proofs.EightBytesWritten.{Puts-in_eight}
use Rattle.nav_bits.proofs.bit_offsets.put_in_eight.Goals as goal

pub returns : goal.returns
returns c =
    Puts-in_eight c.args.bytes.now c.put_eight.new.bytes c.args.first c.args.skip c.args.width c.args.value
    c.requires.some c.requires.within c.requires.fits (rw (← c.eight_bytes.ensures) c.put_eight.ensures)
