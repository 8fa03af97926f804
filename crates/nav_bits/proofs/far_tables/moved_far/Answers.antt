use Rattle.nav_bits.proofs.EntryLemmas.{moved_far_is}
use Rattle.nav_bits.proofs.far_tables.moved_far.Goals as goal

pub returns : goal.returns
returns c = moved_far_is c.args.n c.args.byte c.requires c.ranges.byte.fits
