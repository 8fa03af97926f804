use Rattle.std.proofs.Common.{◌≡◌, ◌+◌, ◌-◌, ◌/◌, ◌%◌, ◌^◌, ◌*◌, sym, ap, ◌∙◌, arith}
use Rattle.std.proofs.Math.Nat.{div-eq_of_lt}
use Rattle.std.proofs.lemmas.Nat.{mod_below, pow_pos}
use Rattle.nav_bits.specs.Bits.{number_at}
use Rattle.nav_bits.proofs.BytePart.{byte_low}
use Rattle.nav_bits.proofs.BitPatterns.{Puts-more, SameOutside-none}
use Rattle.nav_bits.proofs.bit_offsets.put_by_bytes.Goals as goal

pub loop-done-init : goal.loop-done-init
unfolding number_at
loop-done-init c =
    let e : c.args.width - 0 ≡ c.args.width = omega arith in
    record {
      within = omega arith;
      number = sym (ap (λ n. c.args.value / 2 ^ n) e ∙ div-eq_of_lt c.requires.fits);
      others = SameOutside-none c.args.bytes.now c.args.at (c.args.at + 0);
    }

pub put_part-requires-clause-fits : goal.put_part-requires-clause-fits
put_part-requires-clause-fits c =
    rw (byte_low (c.args.value / 2 ^ (c.args.width - c.loop-done.done - c.min-step.result)) c.min-step.result (omega arith))
    (mod_below _ (2 ^ c.min-step.result) (pow_pos c.min-step.result))

pub loop-done-preserved : goal.loop-done-preserved
loop-done-preserved c =
    let step = c.min-step.result in
    let place = 8 * (c.args.at / 8 + (c.args.at % 8 + c.loop-done.done) / 8) + (c.args.at % 8 + c.loop-done.done) % 8 in
    let more = Puts-more c.args.bytes.now c.loop-done.bytes c.put_part.new.bytes c.args.at place c.args.width c.args.value c.loop-done.done step _
    (omega arith) (omega arith) c.loop-done.invariant.number c.loop-done.invariant.others c.put_part.ensures
    (byte_low (c.args.value / 2 ^ (c.args.width - c.loop-done.done - step)) step (omega arith)) in
    record { within = omega arith; number = more.0; others = more.1 }
