use Rattle.std.proofs.Common.{◌≡◌, ℕ, ◌%◌, get_or, ◌+◌, ◌-◌, ◌*◌, ◌/◌, ◌^◌, ◌<◌, subst, ap, sym, ◌∙◌, arith}
use Rattle.std.specs.Int.Bits.{bit_and, bit_xor}
use Rattle.std.proofs.lemmas.Nat.{and_mask}
use Rattle.nav_bits.specs.Register.{shift}
use Rattle.nav_bits.proofs.RegisterLaws.{shift-lt, shift-zero}
use Rattle.nav_bits.proofs.StepLemmas.{bit_step, shifted_fits, no_bits}
use Rattle.nav_bits.proofs.shifts.shifted.Goals as goal

pub returns-then-state-eq0-clause-value : goal.returns-then-state-eq0-clause-value
returns-then-state-eq0-clause-value c = sym (ap (shift (8 * c.args.count)) c.if-state-eq0.true ∙ shift-zero (8 * c.args.count))

pub multiples_of-multiples-requires : goal.multiples_of-multiples-requires
multiples_of-multiples-requires c = subst (λ n. n < 2 ^ 24) (sym c.power.ensures) (shift-lt (8 * c.args.count) 1 (omega arith))

pub loop-k-init : goal.loop-k-init
loop-k-init c = (no_bits (8 * c.args.count) c.args.state c.requires.state, omega arith)

pub loop-k-preserved : goal.loop-k-preserved
loop-k-preserved c =
    let n : ℕ = 8 * c.args.count in
    let digit : ℕ = bit_and (c.args.state / 2 ^ (20 - 4 * c.loop-k.k)) 15 in
    let entry : ℕ = get_or c.multiples_of-multiples.result digit 0 in
    let last : digit ≡ c.args.state / 2 ^ (20 - 4 * c.loop-k.k) % 16 = and_mask (c.args.state / 2 ^ (20 - 4 * c.loop-k.k)) 4 in
    let entry_is : entry ≡ shift n digit = c.multiples_of-multiples.ensures n c.power.ensures digit (omega arith) in
    let step : bit_xor c.moved_4.result entry ≡ shift n (c.args.state / 2 ^ (24 - 4 * (c.loop-k.k + 1))) =
    bit_step n c.args.state c.loop-k.k c.loop-k.sum c.moved_4.result entry c.requires.state c.loop-k-test.true c.loop-k.invariant.0
    c.moved_4.ensures.value entry_is in
    (step, shifted_fits n c.args.state (24 - 4 * (c.loop-k.k + 1)) (bit_xor c.moved_4.result entry) c.requires.state step)
