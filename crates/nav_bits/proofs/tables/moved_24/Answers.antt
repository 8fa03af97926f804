use Rattle.nav_bits.proofs.EntryLemmas.{moved_24_is}
use Rattle.nav_bits.proofs.tables.moved_24.Goals as goal

pub returns : goal.returns
returns c = moved_24_is c.args.byte c.ranges.byte.fits
