use Rattle.std.proofs.lemmas.Bool.Decides.{Decides-at}
use Rattle.nav_eph.proofs.SameFields.{orbit_b_decided}
use Rattle.nav_eph.proofs.same.same_orbit_b.Goals as goal

pub returns : goal.returns
returns c = Decides-at c.eq.result _ c.eq.ensures (orbit_b_decided c.args.a.now c.args.b.now)
