use Rattle.std.proofs.Common.{sym, subst}
use Rattle.lnav_subframe.specs.ParityMirrors.{IsParity}
use Rattle.lnav_subframe.proofs.Lookups.{parity_looked_up}
use Rattle.lnav_subframe.proofs.parity.parity_of.Goals as goal

pub returns : goal.returns
returns c = subst (IsParity c.args.bits c.args.last) (sym c.from.ensures) (parity_looked_up c.args.bits c.args.last c.requires.bits c.requires.last)
