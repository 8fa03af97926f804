use Rattle.std.proofs.Common.{refl}
use Rattle.raw_values.proofs.gps.orbit_b_of.Goals as goal

pub returns-in_err-crc-clause-exactly : goal.returns-in_err-crc-clause-exactly
returns-in_err-crc-clause-exactly c = rw c.from_residual-in_err-crc.ensures (λ some. absurd cc, λ value. c.in_err-crc.ensures.exactly.1 value.crc)

pub returns-in_err-omega_dot-clause-exactly : goal.returns-in_err-omega_dot-clause-exactly
returns-in_err-omega_dot-clause-exactly c = rw c.from_residual-in_err-omega_dot.ensures (λ some. absurd cc, λ value. c.in_err-omega_dot.ensures.exactly.1 value.omega_dot)

pub returns-in_err-idot-clause-exactly : goal.returns-in_err-idot-clause-exactly
returns-in_err-idot-clause-exactly c = rw c.from_residual-in_err-idot.ensures (λ some. absurd cc, λ value. c.in_err-idot.ensures.exactly.1 value.idot)

pub returns-clause-exactly : goal.returns-clause-exactly
returns-clause-exactly c = (
  λ some. record {
    iode = c.in_ok-iode.ensures.exactly.0 refl;
    cic = c.in_ok-cic.ensures.exactly.0 refl;
    omega0 = c.in_ok-omega0.ensures.exactly.0 refl;
    cis = c.in_ok-cis.ensures.exactly.0 refl;
    i0 = c.in_ok-i0.ensures.exactly.0 refl;
    crc = c.in_ok-crc.ensures.exactly.0 refl;
    omega = c.in_ok-omega.ensures.exactly.0 refl;
    omega_dot = c.in_ok-omega_dot.ensures.exactly.0 refl;
    idot = c.in_ok-idot.ensures.exactly.0 refl;
  },
  λ value. refl,
)
