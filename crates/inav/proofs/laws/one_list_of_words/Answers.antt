use Rattle.std.specs.Prelude.{Contains}
use Rattle.inav.proofs.InavPageSurface.{one_list_of}
use Rattle.inav.proofs.laws.one_list_of_words.Goals as goal

pub returns : goal.returns
returns c kept taken words more = one_list_of (Contains kept) taken words more
