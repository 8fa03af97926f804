use Rattle.std.proofs.Common.{◌≡◌, ℕ, ◌+◌, ◌/◌, ◌<◌, ◌∙◌, length, get_or, ap, sym, subst, arith}
use Rattle.std.proofs.lemmas.List.{length_push, get_or_default}
use Rattle.sent_captures.specs.declared.values.GalValues.{GalValues}
use Rattle.sent_captures.specs.declared.pages.Page.{Page}
use Rattle.sent_captures.specs.Mirrors.{IsPageIn}
use Rattle.sent_captures.proofs.Pushes.{each_push}
use Rattle.sent_captures.proofs.pages.pages_of.Goals as goal

pub places-preserved : goal.places-preserved
places-preserved c =
    let values = c.args.values.now in
    let place = c.places.place in
    let all = c.places.pages.items in
    let new : c.push.new.self.items ≡ _ = c.in_ok-push.ensures.items in
    let inside : place / 124 < length values = omega arith in
    let P : ℕ → Page → Type 0 = λ q page. (v : GalValues) → IsPageIn (get_or values (q / 124) v) c.args.ion.now c.args.week q page in
    let here : P place c.page_in.result = λ v.
    subst (λ x. IsPageIn x c.args.ion.now c.args.week place c.page_in.result)
    (c.index-values-place.is ∙ get_or_default values (place / 124) c.index-values-place.result v inside)
    c.page_in.ensures in
    record {
      count = ap length new ∙ length_push all c.page_in.result ∙ ap (λ n. n + 1) c.places.invariant.count;
      each = λ q v low d.
          subst (λ xs. IsPageIn (get_or values (q / 124) v) c.args.ion.now c.args.week q (get_or xs q d)) (sym new)
          (each_push P all c.page_in.result place c.places.invariant.count (λ i below e w. c.places.invariant.each i w below e) here q low d v);
    }

pub returns-clause-pages : goal.returns-clause-pages
returns-clause-pages c = λ q v low d. c.places.invariant.each q v (omega (arith, c.places-test.false)) d
