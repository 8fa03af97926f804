use Rattle.framing.proofs.MessageLaws.{messages_after}
use Rattle.framing.proofs.message_laws.messages_after_the_first.Goals as goal

pub returns : goal.returns
returns c = messages_after
