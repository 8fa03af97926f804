use Rattle.nav_eph.proofs.Surface.{moment_near-only}
use Rattle.rinex_write.specs.Fields.{gps_epoch}
use Rattle.rinex_write.proofs.item.gps_epoch.Goals as goal

pub returns : goal.returns
unfolding gps_epoch
returns c = let e = moment_near-only _ _ _ c.nearest_moment.ensures in cc
