use Rattle.std.proofs.Common.{sym, ◌∙◌, arith}
use Rattle.framing.proofs.HeadingLaws.{other_passed}
use Rattle.framing.proofs.message_form.next_start.Goals as goal

pub loop-place-preserved : goal.loop-place-preserved
loop-place-preserved g c = record {
  onward = omega arith;
  inside = omega arith;
  passed = λ more.
      sym (other_passed g.J.Judge.heading g.met.J.Judge.is_heading more c.args.bytes.now
      c.loop-place.place (omega arith)
      (λ e. c.if-bytes-place.true (e ∙ sym c.first-first.ensures)))
      ∙ c.loop-place.invariant.passed more;
}
