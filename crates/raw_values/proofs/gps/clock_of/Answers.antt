use Rattle.std.proofs.Common.{refl}
use Rattle.raw_values.proofs.gps.clock_of.Goals as goal

pub returns-clause-exactly : goal.returns-clause-exactly
returns-clause-exactly c = (
  λ some. record {
    iodc = c.in_ok-iodc.ensures.exactly.0 refl;
    toc = c.in_ok-toc.ensures.exactly.0 refl;
    af2 = c.in_ok-af2.ensures.exactly.0 refl;
    af1 = c.in_ok-af1.ensures.exactly.0 refl;
    af0 = c.in_ok-af0.ensures.exactly.0 refl;
    tgd = c.in_ok-tgd.ensures.exactly.0 refl;
  },
  λ value. refl,
)
