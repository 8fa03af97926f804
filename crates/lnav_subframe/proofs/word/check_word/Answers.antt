use Rattle.std.proofs.Common.{◌≡◌, ◌%◌, refl, sym, ap, ◌∙◌}
use Rattle.std.proofs.lemmas.Nat.{and_mask}
use Rattle.lnav_subframe.specs.Parity.{IsSource}
use Rattle.lnav_subframe.specs.ParityMirrors.{IsParity}
use Rattle.lnav_subframe.proofs.ParityWords.{checked_source, checked_good, checked_bad}
use Rattle.lnav_subframe.proofs.word.check_word.Goals as goal

pub returns-then-parity_of-sent-clause-good : goal.returns-then-parity_of-sent-clause-good
returns-then-parity_of-sent-clause-good c =
    let bits = c.inverted-bits.result in
    let from : IsSource c.args.word c.args.last2 bits =
    rw (c.value-sent.ensures.same, c.value-last.ensures.same)
    at (checked_source c.value-sent.result c.value-last.result bits c.inverted-bits.ensures.fits c.inverted-bits.ensures.each) in
    let is : IsParity bits c.args.last2 c.parity_of.result = rw c.value-last.ensures.same at c.parity_of.ensures in
    let same : c.parity_of.result ≡ c.args.word % 64 =
    c.if-parity_of-sent.true ∙ and_mask c.value-sent.result 6 ∙ ap (λ n. n % 64) c.value-sent.ensures.same in
    (λ _. checked_good c.args.word c.args.last2 bits c.parity_of.result from is same, λ _. refl)

pub returns-then-parity_of-sent-clause-bits : goal.returns-then-parity_of-sent-clause-bits
returns-then-parity_of-sent-clause-bits c =
    rw (c.from_bits.ensures, ← c.value-sent.ensures.same, ← c.value-last.ensures.same)
    (checked_source c.value-sent.result c.value-last.result c.inverted-bits.result c.inverted-bits.ensures.fits c.inverted-bits.ensures.each)

pub returns-else-parity_of-sent-clause-good : goal.returns-else-parity_of-sent-clause-good
returns-else-parity_of-sent-clause-good c =
    let bits = c.inverted-bits.result in
    let from : IsSource c.args.word c.args.last2 bits =
    rw (c.value-sent.ensures.same, c.value-last.ensures.same)
    at (checked_source c.value-sent.result c.value-last.result bits c.inverted-bits.ensures.fits c.inverted-bits.ensures.each) in
    let is : IsParity bits c.args.last2 c.parity_of.result = rw c.value-last.ensures.same at c.parity_of.ensures in (
      λ no. cc,
      λ good. absurd (c.if-parity_of-sent.false (
          checked_bad c.args.word c.args.last2 bits c.parity_of.result from is good
          ∙ sym (and_mask c.value-sent.result 6 ∙ ap (λ n. n % 64) c.value-sent.ensures.same))),
    )
