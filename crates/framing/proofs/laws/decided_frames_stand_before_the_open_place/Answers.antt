use Rattle.std.proofs.Common.{refl, arith}
use Rattle.framing.proofs.OpenPlace.{stand_before, whole_frames}
use Rattle.framing.proofs.Reaching.{reaches_none}
use Rattle.framing.proofs.laws.decided_frames_stand_before_the_open_place.Goals as goal

pub returns-clause-before : goal.returns-clause-before
returns-clause-before c =
    λ bytes chosen place set open_place. stand_before bytes chosen place set open_place bytes 0 0 refl (reaches_none bytes chosen) (omega arith)

pub returns-clause-all : goal.returns-clause-all
returns-clause-all c =
    λ bytes chosen set finished. whole_frames bytes chosen set finished bytes 0 0 refl (reaches_none bytes chosen)
