use Rattle.framing.proofs.SbfEntryLemmas.{moved_8_is}
use Rattle.framing.proofs.sbf_register.moved_8.Goals as goal

pub returns : goal.returns
returns c = moved_8_is c.args.byte c.ranges.byte.fits
