use Rattle.framing.proofs.MessageTakes.{waiting_decided, waiting_undecided}
use Rattle.framing.proofs.message_laws.no_message_is_decided_while_bytes_wait.Goals as goal

pub returns-clause-decided : goal.returns-clause-decided
returns-clause-decided c = λ f rest w. waiting_decided f rest w

pub returns-clause-undecided : goal.returns-clause-undecided
returns-clause-undecided c = λ f rest w. waiting_undecided f rest w
