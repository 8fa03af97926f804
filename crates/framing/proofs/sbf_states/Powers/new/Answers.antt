use Rattle.std.proofs.Common.{subst, sym, ap, [], ◌∷◌, ◌++◌, ◌∙◌}
use Rattle.framing.specs.SbfStates.{ArePowers}
use Rattle.framing.proofs.SbfCrcSteps.{first_power}
use Rattle.framing.proofs.sbf_states.Powers.new.Goals as goal

pub invariant_of-result : goal.invariant_of-result
invariant_of-result c = subst ArePowers
    (sym (c.push.ensures.items ∙ ap (λ xs. xs ++ 1 ∷ []) c.new-powers.ensures)) first_power
