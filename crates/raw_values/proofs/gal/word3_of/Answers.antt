use Rattle.std.proofs.Common.{refl}
use Rattle.raw_values.proofs.gal.word3_of.Goals as goal

pub returns-clause-exactly : goal.returns-clause-exactly
returns-clause-exactly c = (
  λ some. record {
    iodnav = c.in_ok-iodnav.ensures.exactly.0 refl;
    omega_dot = c.in_ok-omega_dot.ensures.exactly.0 refl;
    delta_n = c.in_ok-delta_n.ensures.exactly.0 refl;
    cuc = c.in_ok-cuc.ensures.exactly.0 refl;
    cus = c.in_ok-cus.ensures.exactly.0 refl;
    crc = c.in_ok-crc.ensures.exactly.0 refl;
    crs = c.in_ok-crs.ensures.exactly.0 refl;
    sisa = c.in_ok-sisa.ensures.exactly.0 refl;
  },
  λ value. refl,
)
