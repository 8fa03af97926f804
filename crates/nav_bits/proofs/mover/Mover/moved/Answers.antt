use Rattle.std.proofs.Common.{◌≡◌, ℕ, ◌*◌, ◌/◌, ◌%◌, ◌^◌, ◌<◌, ◌∙◌, sym, ap, subst, arith}
use Rattle.std.specs.Int.Bits.{bit_and}
use Rattle.std.proofs.lemmas.Nat.{and_mask}
use Rattle.nav_bits.specs.Register.{shift}
use Rattle.nav_bits.proofs.RegisterLaws.{shift-lt}
use Rattle.nav_bits.proofs.MoverLemmas.{looked_up}
use Rattle.nav_bits.proofs.mover.Mover.moved.Goals as goal

pub returns-clause-value : goal.returns-clause-value
returns-clause-value c =
    let m = c.self.inside in
    let state : ℕ = c.args.state in
    let end : bit_and state 255 ≡ state % 2 ^ 8 = and_mask state 8 in
    let inside : bit_and (state / 2 ^ 8) 255 ≡ state / 2 ^ 8 % 2 ^ 8 = and_mask (state / 2 ^ 8) 8 in
    looked_up (8 * m.count) state _ _ _ c.requires (c.self.invariant.1.ends (bit_and state 255) (omega (arith, end)))
    (c.self.invariant.1.middles (bit_and (state / 2 ^ 8) 255) (omega (arith, inside)))
    (c.self.invariant.1.heads (state / 2 ^ 16) (omega arith))
    ∙ ap (λ n. shift (8 * n) state) c.self.view_is

pub returns-clause-fits : goal.returns-clause-fits
returns-clause-fits c =
    subst (λ n. n < 2 ^ 24) (sym (returns-clause-value c)) (shift-lt (8 * c.args.self.now) c.args.state c.requires)
