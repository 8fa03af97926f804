use Rattle.std.proofs.Common.{refl}
use Rattle.framing.specs.Places.{size_at, is_chosen}
use Rattle.framing.proofs.ChosenLaws.{chosen_fits, only_chosen}
use Rattle.framing.proofs.ChosenFrames.{chosen_frames}
use Rattle.framing.proofs.Reaching.{reaches_none}
use Rattle.framing.proofs.laws.frames_are_at_the_chosen_places.Goals as goal

pub returns-clause-exist : goal.returns-clause-exist
returns-clause-exist c = λ bytes. record { exactly = chosen_fits (size_at bytes) }

pub returns-clause-only : goal.returns-clause-only
returns-clause-only c =
    λ bytes chosen set. only_chosen (size_at bytes) chosen (is_chosen bytes) set.exactly (chosen_fits (size_at bytes))

pub returns-clause-frames : goal.returns-clause-frames
returns-clause-frames c =
    λ bytes chosen set. chosen_frames bytes chosen set bytes 0 0 refl (reaches_none bytes chosen)
