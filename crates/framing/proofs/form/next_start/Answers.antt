use Rattle.std.proofs.Common.{sym, ◌∙◌, arith}
use Rattle.framing.proofs.Starts.{other_passed}
use Rattle.framing.proofs.form.next_start.Goals as goal

pub loop-place-preserved : goal.loop-place-preserved
loop-place-preserved c = record {
  onward = omega arith;
  inside = omega arith;
  passed = λ more. sym (other_passed more c.args.bytes.now c.loop-place.place (omega arith) c.if-bytes-place.true) ∙ c.loop-place.invariant.passed more;
}
