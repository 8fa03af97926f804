use Rattle.std.proofs.lemmas.Bool.Decides.{Decides-at}
use Rattle.nav_eph.proofs.SameFields.{orbit_a_decided}
use Rattle.nav_eph.proofs.same.same_orbit_a.Goals as goal

pub returns : goal.returns
returns c = Decides-at c.eq.result _ c.eq.ensures (orbit_a_decided c.args.a.now c.args.b.now)
