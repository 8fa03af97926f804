use Rattle.std.proofs.Common.{◌<◌, ◌^◌, subst, sym}
use Rattle.nav_bits.proofs.LookupLemmas.{one_byte}
use Rattle.nav_bits.proofs.RegisterLaws.{with_byte_of-lt}
use Rattle.nav_bits.proofs.register.with_byte.Goals as goal

pub returns-clause-value : goal.returns-clause-value
returns-clause-value c = one_byte c.args.state c.args.byte c.moved_8.result c.requires c.ranges.byte.fits c.moved_8.ensures

pub returns-clause-fits : goal.returns-clause-fits
returns-clause-fits c =
    subst (λ n. n < 2 ^ 24) (sym (one_byte c.args.state c.args.byte c.moved_8.result c.requires c.ranges.byte.fits c.moved_8.ensures))
    (with_byte_of-lt c.args.state c.args.byte c.requires)
