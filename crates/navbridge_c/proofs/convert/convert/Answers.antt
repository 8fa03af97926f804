use Rattle.std.proofs.Common.{refl}
use Rattle.navbridge_c.proofs.Endings.{converted}
use Rattle.navbridge_c.proofs.convert.convert.Goals as goal

pub returns : goal.returns
returns c =
    converted _ _ _ _ _ _ _ _ _ _ _ _ _ _ _ _ c.run_words-run.ensures c.put.ensures c.deref.ensures.value c.put-2.ensures c.deref-2.ensures.value
    refl refl c.status_in_room.ensures
