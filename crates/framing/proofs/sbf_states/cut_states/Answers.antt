use Rattle.std.proofs.Common.{drop, sym, subst, arith}
use Rattle.framing.specs.SbfStates.{AreStates}
use Rattle.framing.proofs.SbfCrcSteps.{states_cut}
use Rattle.framing.proofs.sbf_states.cut_states.Goals as goal

pub returns-then-count-len : goal.returns-then-count-len
returns-then-count-len c bytes are =
    subst (AreStates (drop c.args.count bytes)) (sym c.cut_prefix.ensures)
    (states_cut bytes c.args.states.now.items are c.args.count (omega (arith, c.len.ensures.value)))
