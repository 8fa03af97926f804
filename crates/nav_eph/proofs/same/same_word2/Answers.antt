use Rattle.std.proofs.lemmas.Bool.Decides.{Decides-at}
use Rattle.nav_eph.proofs.SameFields.{word2_decided}
use Rattle.nav_eph.proofs.same.same_word2.Goals as goal

pub returns : goal.returns
returns c = Decides-at c.eq.result _ c.eq.ensures (word2_decided c.args.a.now c.args.b.now)
