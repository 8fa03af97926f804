use Rattle.std.proofs.Common.{refl}
use Rattle.raw_values.proofs.gal.word4_of.Goals as goal

pub returns-clause-exactly : goal.returns-clause-exactly
returns-clause-exactly c = (
  λ some. record {
    iodnav = c.in_ok-iodnav.ensures.exactly.0 refl;
    cic = c.in_ok-cic.ensures.exactly.0 refl;
    cis = c.in_ok-cis.ensures.exactly.0 refl;
    toc = c.in_ok-toc.ensures.exactly.0 refl;
    af0 = c.in_ok-af0.ensures.exactly.0 refl;
    af1 = c.in_ok-af1.ensures.exactly.0 refl;
    af2 = c.in_ok-af2.ensures.exactly.0 refl;
  },
  λ value. refl,
)
