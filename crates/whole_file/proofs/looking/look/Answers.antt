use Rattle.std.proofs.Common.{ap, arith, length, ◌∙◌}
use Rattle.whole_file.specs.Kinds.{kind_of}
use Rattle.whole_file.proofs.Looked.{full}
use Rattle.whole_file.proofs.looking.look.Goals as goal

pub returns-clause-kind : goal.returns-clause-kind
returns-clause-kind g c =
    full _ _ _ c.loop-input.input.prefix.items _ c.kind_of-2.result c.loop-input.invariant.takes
    (omega (arith, c.loop-input.invariant.few, c.loop-input-test.false, ap length c.prefix.ensures)) c.first_bytes_decide.ensures c.form_of-2.ensures
    (c.kind_of-2.ensures ∙ ap kind_of c.prefix-2.ensures)
