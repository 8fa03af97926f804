use Rattle.framing.proofs.SbfCrcSteps.{four_zeros}
use Rattle.framing.proofs.sbf_states.with_four_zeros.Goals as goal

pub returns-clause-value : goal.returns-clause-value
returns-clause-value c = four_zeros c.args.state _ _ _ _ c.requires c.with_byte.ensures.value
    c.with_byte-2.ensures.value c.with_byte-3.ensures.value c.with_byte-4.ensures.value
