use Rattle.std.proofs.Common.{◌≡◌, true, false, refl, sym, ap, ◌∙◌}
use Rattle.std.proofs.lemmas.Bool.{false≢true}
use Rattle.inav.specs.Pages.{has_right_crc}
use Rattle.inav.proofs.PageNumbers.{right_to, right_from}
use Rattle.inav.proofs.page.join.Goals as goal

pub returns-then-belong-clause-crc : goal.returns-then-belong-clause-crc
returns-then-belong-clause-crc c =
    let right : has_right_crc c.number-even.result c.number-odd.result ≡ true = sym c.belong.ensures ∙ c.if-belong.true in
    let here : has_right_crc c.args.even.now c.args.odd.now ≡ true =
    sym (ap (λ e. has_right_crc e c.args.odd.now) c.number-even.ensures.same) ∙ sym (ap (has_right_crc c.number-even.result) c.number-odd.ensures.same) ∙ right in
    (λ e. right_to c.args.even.now c.args.odd.now here, λ h. refl)

pub returns-else-belong-clause-crc : goal.returns-else-belong-clause-crc
returns-else-belong-clause-crc c =
    let wrong : has_right_crc c.number-even.result c.number-odd.result ≡ false = sym c.belong.ensures ∙ c.if-belong.false in
    let here : has_right_crc c.args.even.now c.args.odd.now ≡ false =
    sym (ap (λ e. has_right_crc e c.args.odd.now) c.number-even.ensures.same) ∙ sym (ap (has_right_crc c.number-even.result) c.number-odd.ensures.same) ∙ wrong in
    (λ e. absurd (false≢true e), λ h. sym here ∙ right_from c.args.even.now c.args.odd.now h)
