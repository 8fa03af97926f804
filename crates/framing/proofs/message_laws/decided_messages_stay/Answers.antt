use Rattle.std.proofs.Common.{arith}
use Rattle.framing.proofs.MessageLaws.{messages_stay}
use Rattle.framing.proofs.message_laws.decided_messages_stay.Goals as goal

pub returns : goal.returns
returns c = λ f laws bytes more. messages_stay f laws bytes more 0 (omega arith)
