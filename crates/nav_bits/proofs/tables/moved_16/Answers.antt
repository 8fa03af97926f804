use Rattle.nav_bits.proofs.EntryLemmas.{moved_16_is}
use Rattle.nav_bits.proofs.tables.moved_16.Goals as goal

pub returns : goal.returns
returns c = moved_16_is c.args.byte c.ranges.byte.fits
