use Rattle.std.proofs.Common.{◌≡◌, Err, sym, subst, ap, ◌∙◌, arith}
use Rattle.lnav_subframe.specs.declared.fault.LnavFault.TheVariants.{Preamble}
use Rattle.lnav_subframe.specs.Reading.{heard}
use Rattle.lnav_subframe.specs.Words.{IsFirstBad, IsSubframe}
use Rattle.lnav_subframe.proofs.Faults.{is_part, is_subframe}
use Rattle.lnav_subframe.proofs.Functions.{of_bad_word, of_no_preamble, of_subframe}
use Rattle.lnav_subframe.proofs.read.read_subframe.Goals as goal

pub returns-in-Ok-content_of-clause-whole : goal.returns-in-Ok-content_of-clause-whole
returns-in-Ok-content_of-clause-whole c =
    is_part c.in-Ok.source c.args.sat c.in-Ok-content_of.body c.requires (sym c.content_of.ensures ∙ c.in-Ok-content_of.is)

pub returns-in_err-upright-clause-answer : goal.returns-in_err-upright-clause-answer
returns-in_err-upright-clause-answer c =
    let why = c.in_err-upright.ensures.fault in
    let is : c.from_residual.result ≡ Err Preamble = grind (arith, why.0, c.from_residual.ensures, c.in_err-upright.is) in
    is ∙ sym (of_no_preamble c.args.bits.now c.args.sat c.args.stamp why.1)

pub returns-in-Err-clause-answer : goal.returns-in-Err-clause-answer
returns-in-Err-clause-answer c =
    sym (of_bad_word c.args.bits.now c.args.sat c.args.stamp c.in-Err.word c.in_ok-upright.ensures.preamble
    (subst (λ u. IsFirstBad u c.in-Err.word) c.in_ok-upright.ensures.same c.in-Err.ensures.fault))

pub returns-in-Ok-content_of-clause-answer : goal.returns-in-Ok-content_of-clause-answer
returns-in-Ok-content_of-clause-answer c =
    let is : IsSubframe c.args.bits.now c.in-Ok.source =
    is_subframe c.args.bits.now c.in_ok-upright.upright c.in-Ok.source c.in_ok-upright.ensures.preamble c.in_ok-upright.ensures.same
    c.in-Ok.ensures.good c.in-Ok.ensures.source in
    sym (of_subframe c.args.bits.now c.in-Ok.source c.args.sat c.args.stamp is ∙ ap (heard c.args.sat c.args.stamp) (sym c.content_of.ensures ∙ c.in-Ok-content_of.is))

pub returns-in-Err-content_of-clause-answer : goal.returns-in-Err-content_of-clause-answer
returns-in-Err-content_of-clause-answer c =
    let is : IsSubframe c.args.bits.now c.in-Ok.source =
    is_subframe c.args.bits.now c.in_ok-upright.upright c.in-Ok.source c.in_ok-upright.ensures.preamble c.in_ok-upright.ensures.same
    c.in-Ok.ensures.good c.in-Ok.ensures.source in
    sym (of_subframe c.args.bits.now c.in-Ok.source c.args.sat c.args.stamp is ∙ ap (heard c.args.sat c.args.stamp) (sym c.content_of.ensures ∙ c.in-Err-content_of.is))
