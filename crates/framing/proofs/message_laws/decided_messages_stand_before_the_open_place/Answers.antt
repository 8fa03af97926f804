use Rattle.std.proofs.Common.{refl, arith}
use Rattle.framing.proofs.MessageOpenPlace.{stand_before, whole_messages}
use Rattle.framing.proofs.MessageReaching.{reaches_none}
use Rattle.framing.proofs.message_laws.decided_messages_stand_before_the_open_place.Goals as goal

pub returns-clause-before : goal.returns-clause-before
returns-clause-before c =
    λ f bytes chosen place laws set open_place. stand_before f laws bytes chosen place set
    open_place bytes 0 0 refl (reaches_none f bytes chosen) (omega arith)

pub returns-clause-all : goal.returns-clause-all
returns-clause-all c =
    λ f bytes chosen set finished. whole_messages f bytes chosen set finished bytes 0 0 refl
    (reaches_none f bytes chosen)
