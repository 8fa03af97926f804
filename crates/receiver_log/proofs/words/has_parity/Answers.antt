use Rattle.std.proofs.Common.{◌%◌, subst, sym, ◌∙◌}
use Rattle.std.proofs.lemmas.Bool.Decides.{same_from_decides}
use Rattle.lnav_subframe.specs.Parity.{IsGood}
use Rattle.lnav_subframe.specs.ParityFunctions.{is_good}
use Rattle.lnav_subframe.proofs.Surface.{good-decides}
use Rattle.receiver_log.proofs.words.has_parity.Goals as goal

pub returns : goal.returns
returns c =
    let last = c.args.last % 4 in
    let same = c.from_bits.ensures in
    same_from_decides c.is_some.result (is_good c.args.word last) (
      λ e. subst (IsGood c.args.word) same
          (c.check_word.ensures.good.0 (sym c.is_some.ensures ∙ e)),
      λ g. c.is_some.ensures ∙ c.check_word.ensures.good.1
          (subst (IsGood c.args.word) (sym same) g),
    )
    ((good-decides c.args.word last).0, (good-decides c.args.word last).1)
