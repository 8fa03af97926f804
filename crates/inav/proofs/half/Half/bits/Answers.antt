use Rattle.std.proofs.Common.{◌∙◌}
use Rattle.inav.proofs.PageNumbers.{half_number}
use Rattle.inav.proofs.half.Half.bits.Goals as goal

pub returns-clause-number : goal.returns-clause-number
returns-clause-number c =
    half_number c.self.inside.number c.self.inside.bits c.self.invariant.0.fits c.self.invariant.1 ∙ c.self.view_is
