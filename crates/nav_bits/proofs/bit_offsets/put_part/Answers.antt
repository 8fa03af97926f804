use Rattle.nav_bits.proofs.BytePart.{Puts-part}
use Rattle.nav_bits.proofs.bit_offsets.put_part.Goals as goal

pub returns : goal.returns
returns c =
    Puts-part c.args.bytes.now c.args.byte c.args.skip c.args.width c.args.value c.requires.some c.requires.within c.requires.inside c.requires.fits
