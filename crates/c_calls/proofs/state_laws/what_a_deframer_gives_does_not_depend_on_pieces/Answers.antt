use Rattle.c_calls.specs.Deframers.{fresh}
use Rattle.c_calls.proofs.CallLemmas.{gives_all, gives_far}
use Rattle.c_calls.proofs.state_laws.what_a_deframer_gives_does_not_depend_on_pieces.Goals as goal

pub returns-clause-far : goal.returns-clause-far
returns-clause-far c = λ calls state following leads last. gives_far calls fresh state following leads last

pub returns-clause-whole : goal.returns-clause-whole
returns-clause-whole c = λ calls state leads none. gives_all calls state leads none
