use Rattle.std.proofs.Common.{refl}
use Rattle.raw_values.proofs.gps.orbit_a_of.Goals as goal

pub returns-clause-exactly : goal.returns-clause-exactly
returns-clause-exactly c = (
  λ some. record {
    iode = c.in_ok-iode.ensures.exactly.0 refl;
    crs = c.in_ok-crs.ensures.exactly.0 refl;
    delta_n = c.in_ok-delta_n.ensures.exactly.0 refl;
    m0 = c.in_ok-m0.ensures.exactly.0 refl;
    cuc = c.in_ok-cuc.ensures.exactly.0 refl;
    e = c.in_ok-e.ensures.exactly.0 refl;
    cus = c.in_ok-cus.ensures.exactly.0 refl;
    root_a = c.in_ok-root_a.ensures.exactly.0 refl;
    toe = c.in_ok-toe.ensures.exactly.0 refl;
  },
  λ value. refl,
)
