use Rattle.std.proofs.Common.{refl}
use Rattle.raw_values.proofs.Whole.{gps_whole}
use Rattle.raw_values.proofs.gps.gps_of.Goals as goal

pub returns-clause-exactly : goal.returns-clause-exactly
returns-clause-exactly c =
    gps_whole c.args.raw.now _ _ _ _ _ c.in_ok-sat.ensures.same c.in_ok-a.ensures.same c.in_ok-b.ensures.same c.sent_of.ensures (record {
      sat = c.in_ok-sat.ensures.exactly.0 refl;
      clock = c.in_ok-clock.ensures.exactly.0 refl;
      side = c.in_ok-side.ensures.exactly.0 refl;
      a = c.in_ok-a.ensures.exactly.0 refl;
      fit = c.in_ok-fit.ensures.exactly.0 refl;
      b = c.in_ok-b.ensures.exactly.0 refl;
      toe_week = c.in_ok-toe_week.ensures.exactly.0 refl;
    }) c.new-2.ensures.exactly
