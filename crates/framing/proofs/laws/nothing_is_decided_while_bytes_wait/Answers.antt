use Rattle.framing.proofs.Takes.{waiting_decided, waiting_undecided}
use Rattle.framing.proofs.laws.nothing_is_decided_while_bytes_wait.Goals as goal

pub returns-clause-decided : goal.returns-clause-decided
returns-clause-decided c = λ rest w. waiting_decided rest w

pub returns-clause-undecided : goal.returns-clause-undecided
returns-clause-undecided c = λ rest w. waiting_undecided rest w
