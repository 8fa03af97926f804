use Rattle.std.proofs.Common.{refl}
use Rattle.framing.specs.MessagePlaces.{size_at, is_chosen}
use Rattle.framing.proofs.MessageChosenLaws.{chosen_fits, only_chosen}
use Rattle.framing.proofs.ChosenMessages.{chosen_messages}
use Rattle.framing.proofs.MessageReaching.{reaches_none}
use Rattle.framing.proofs.message_laws.messages_are_at_the_chosen_places.Goals as goal

pub returns-clause-exist : goal.returns-clause-exist
returns-clause-exist c = λ f bytes. record { exactly = chosen_fits (size_at f bytes) }

pub returns-clause-only : goal.returns-clause-only
returns-clause-only c =
    λ f bytes chosen set. only_chosen (size_at f bytes) chosen (is_chosen f bytes) set.exactly
    (chosen_fits (size_at f bytes))

pub returns-clause-messages : goal.returns-clause-messages
returns-clause-messages c =
    λ f bytes chosen set. chosen_messages f bytes chosen set bytes 0 0 refl
    (reaches_none f bytes chosen)
