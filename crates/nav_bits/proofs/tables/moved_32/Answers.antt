use Rattle.nav_bits.proofs.EntryLemmas.{moved_32_is}
use Rattle.nav_bits.proofs.tables.moved_32.Goals as goal

pub returns : goal.returns
returns c = moved_32_is c.args.byte c.ranges.byte.fits
