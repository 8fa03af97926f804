use Rattle.nav_bits.proofs.EntryLemmas.{moved_8_is}
use Rattle.nav_bits.proofs.tables.moved_8.Goals as goal

pub returns : goal.returns
returns c = moved_8_is c.args.byte c.ranges.byte.fits
