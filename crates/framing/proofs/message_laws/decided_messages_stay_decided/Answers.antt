use Rattle.framing.proofs.Going.{decided_behind}
use Rattle.framing.proofs.message_laws.decided_messages_stay_decided.Goals as goal

pub returns : goal.returns
returns c = decided_behind
