use Rattle.periods.proofs.AddLemmas.{gps_same}
use Rattle.periods.proofs.digest_add.add_to_gps.Goals as goal

pub returns-in_default : goal.returns-in_default
returns-in_default c = gps_same c.args.digest.now c.args.part.now c.in_default.not-GpsClock c.in_default.not-GpsA c.in_default.not-GpsB
