use Rattle.std.proofs.Common.{drop, sym, subst, arith}
use Rattle.framing.specs.States.{AreStates}
use Rattle.framing.proofs.StateLaws.{states_cut}
use Rattle.framing.proofs.states.cut_states.Goals as goal

pub returns-then-count-len : goal.returns-then-count-len
returns-then-count-len c bytes are =
    subst (AreStates (drop c.args.count bytes)) (sym c.cut_prefix.ensures)
    (states_cut bytes c.args.states.now.items are c.args.count (omega (arith, c.len.ensures.value)))
