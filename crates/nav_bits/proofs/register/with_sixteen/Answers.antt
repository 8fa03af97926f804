use Rattle.nav_bits.proofs.StepLemmas.{sixteen_fits, sixteen_is, sixteen_step}
use Rattle.nav_bits.proofs.register.with_sixteen.Goals as goal

pub returns-clause-value : goal.returns-clause-value
returns-clause-value c =
    sixteen_step c.args.state _ c.args.at c.args.bytes.now c.requires.state c.requires.inside
    (sixteen_is c.four_moved-first.ensures c.four_moved-second.ensures c.four_moved-third.ensures c.with_four-last.ensures.value)

pub returns-clause-fits : goal.returns-clause-fits
returns-clause-fits c =
    sixteen_fits _ _ _ _ _ _ _ c.args.state _ _ _ c.requires.state c.four_moved-first.ensures c.four_moved-second.ensures c.four_moved-third.ensures
    c.with_four-last.ensures.fits
