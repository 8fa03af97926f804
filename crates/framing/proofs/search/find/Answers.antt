use Rattle.std.proofs.Common.{◌≡◌, ◌&&◌, false, drop, sym, subst, ◌∙◌, arith}
use Rattle.std.proofs.lemmas.List.{take_rest}
use Rattle.framing.specs.Headings.{opens_by, format_of}
use Rattle.framing.proofs.MessageTakes.{first_passed}
use Rattle.framing.proofs.search.find.Goals as goal

pub loop-place-init : goal.loop-place-init
loop-place-init g c = record {
  inside = c.next_start-place.ensures.inside;
  passed = c.next_start-place.ensures.passed c.args.more;
  beside = c.requires.beside;
}

pub loop-place-preserved : goal.loop-place-preserved
loop-place-preserved g c =
    let h = g.J.Judge.heading in
    let place = c.loop-place.place in
    let closed : (c.args.more && opens_by h (drop place c.args.bytes.now)) ≡ false =
    sym (subst (λ xs. false ≡ (c.args.more && opens_by h xs))
    (take_rest c.args.bytes.now place) c.if-is_held.ensures) in
    record {
      inside = c.next_start-place-in-loop-place.ensures.inside;
      passed =
          c.next_start-place-in-loop-place.ensures.passed c.args.more
          ∙ sym (first_passed (format_of h) c.args.more c.args.bytes.now place (omega arith) closed
          (sym c.size_at-size.ensures.value ∙ c.if-size-ne0.false))
          ∙ c.loop-place.invariant.passed;
      beside = c.size_at-size.ensures.beside;
    }
