use Rattle.std.proofs.Common.{◌<◌, ◌^◌, [], ◌∷◌, subst, sym}
use Rattle.nav_bits.proofs.LookupLemmas.{four_looked_up}
use Rattle.nav_bits.proofs.RegisterLaws.{crc_from-lt}
use Rattle.nav_bits.proofs.register.with_four.Goals as goal

pub returns-clause-value : goal.returns-clause-value
returns-clause-value c =
    four_looked_up c.args.state c.args.a c.args.b c.args.c c.args.d _ _ _ _ c.requires c.ranges.a.fits c.ranges.b.fits c.ranges.c.fits c.ranges.d.fits
    c.moved_32.ensures c.moved_24.ensures c.moved_16.ensures c.moved_8.ensures

pub returns-clause-fits : goal.returns-clause-fits
returns-clause-fits c =
    subst (λ n. n < 2 ^ 24) (sym (returns-clause-value c)) (crc_from-lt c.args.state (c.args.a ∷ c.args.b ∷ c.args.c ∷ c.args.d ∷ []) c.requires)
