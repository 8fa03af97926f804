use Rattle.std.proofs.Common.{refl}
use Rattle.raw_values.proofs.ion.gps_ion_of.Goals as goal

pub returns-in_err-beta0-clause-exactly : goal.returns-in_err-beta0-clause-exactly
returns-in_err-beta0-clause-exactly c = rw c.from_residual-in_err-beta0.ensures (λ some. absurd cc, λ value. c.in_err-beta0.ensures.exactly.1 value.beta0)

pub returns-in_err-beta1-clause-exactly : goal.returns-in_err-beta1-clause-exactly
returns-in_err-beta1-clause-exactly c = rw c.from_residual-in_err-beta1.ensures (λ some. absurd cc, λ value. c.in_err-beta1.ensures.exactly.1 value.beta1)

pub returns-in_err-beta2-clause-exactly : goal.returns-in_err-beta2-clause-exactly
returns-in_err-beta2-clause-exactly c = rw c.from_residual-in_err-beta2.ensures (λ some. absurd cc, λ value. c.in_err-beta2.ensures.exactly.1 value.beta2)

pub returns-in_err-beta3-clause-exactly : goal.returns-in_err-beta3-clause-exactly
returns-in_err-beta3-clause-exactly c = rw c.from_residual-in_err-beta3.ensures (λ some. absurd cc, λ value. c.in_err-beta3.ensures.exactly.1 value.beta3)

pub returns-clause-exactly : goal.returns-clause-exactly
returns-clause-exactly c = (
  λ some. record {
    alpha0 = c.in_ok-alpha0.ensures.exactly.0 refl;
    alpha1 = c.in_ok-alpha1.ensures.exactly.0 refl;
    alpha2 = c.in_ok-alpha2.ensures.exactly.0 refl;
    alpha3 = c.in_ok-alpha3.ensures.exactly.0 refl;
    beta0 = c.in_ok-beta0.ensures.exactly.0 refl;
    beta1 = c.in_ok-beta1.ensures.exactly.0 refl;
    beta2 = c.in_ok-beta2.ensures.exactly.0 refl;
    beta3 = c.in_ok-beta3.ensures.exactly.0 refl;
  },
  λ value. refl,
)
