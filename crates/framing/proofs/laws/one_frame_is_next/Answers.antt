use Rattle.std.proofs.Common.{◌∙◌, sym, ap, [], get_or, length, arith}
use Rattle.framing.proofs.laws.one_frame_is_next.Goals as goal

pub returns-clause-frame : goal.returns-clause-frame
returns-clause-frame c = λ more old frame new frame' new' x y.
    (ap (λ l. get_or l 0 []) (sym x.first ∙ y.first), x.rest ∙ sym y.rest)

pub returns-clause-none : goal.returns-clause-none
returns-clause-none c = λ more old new new' x y. x.rest ∙ sym y.rest

pub returns-clause-either : goal.returns-clause-either
returns-clause-either c = λ more old frame new new' x y. omega (arith, ap length (sym y.none ∙ x.first))
