use Rattle.std.proofs.lemmas.Bool.Decides.{Decides-at}
use Rattle.nav_eph.proofs.SameFields.{gps_ion_decided}
use Rattle.nav_eph.proofs.same.same_gps_ion.Goals as goal

pub returns : goal.returns
returns c = Decides-at c.eq.result _ c.eq.ensures (gps_ion_decided c.args.a.now c.args.b.now)
