use Rattle.std.proofs.Common.{refl}
use Rattle.raw_values.proofs.gal.word2_of.Goals as goal

pub returns-clause-exactly : goal.returns-clause-exactly
returns-clause-exactly c = (
  λ some. record {
    iodnav = c.in_ok-iodnav.ensures.exactly.0 refl;
    omega0 = c.in_ok-omega0.ensures.exactly.0 refl;
    i0 = c.in_ok-i0.ensures.exactly.0 refl;
    omega = c.in_ok-omega.ensures.exactly.0 refl;
    idot = c.in_ok-idot.ensures.exactly.0 refl;
  },
  λ value. refl,
)
