use Rattle.std.proofs.Common.{refl}
use Rattle.raw_values.proofs.Whole.{gal_whole}
use Rattle.raw_values.proofs.gal.gal_of.Goals as goal

pub returns-clause-exactly : goal.returns-clause-exactly
returns-clause-exactly c =
    gal_whole c.args.raw.now _ _ _ _ _ _ _ c.in_ok-sat.ensures.same c.in_ok-w1.ensures.same c.in_ok-w2.ensures.same c.in_ok-w3.ensures.same
    c.in_ok-w4.ensures.same c.sent_of.ensures (record {
      sat = c.in_ok-sat.ensures.exactly.0 refl;
      w1 = c.in_ok-w1.ensures.exactly.0 refl;
      w2 = c.in_ok-w2.ensures.exactly.0 refl;
      w3 = c.in_ok-w3.ensures.exactly.0 refl;
      w4 = c.in_ok-w4.ensures.exactly.0 refl;
      health = c.in_ok-health.ensures.exactly.0 refl;
      toe_week = c.in_ok-toe_week.ensures.exactly.0 refl;
    }) c.new-2.ensures.exactly
