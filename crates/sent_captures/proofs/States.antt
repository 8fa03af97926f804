-- The states of the generator, and the bits drawn from them.
use Rattle.std.proofs.Common.{◌≡◌, ℕ, zero, suc, ◌+◌, ◌-◌, ◌*◌, ◌/◌, ◌%◌, ◌^◌, ◌<◌, ◌≤◌, ap, sym, ◌∙◌, subst, lit<, arith}
use Rattle.std.proofs.Math.Nat.{mod-lt}
use Rattle.std.proofs.Math.Pow.{shr_lt}
use Rattle.sent_captures.specs.Draws.{next, state_after}

-- draws after draws
pub state_after-add : (x a b : ℕ) → state_after (state_after x a) b ≡ state_after x (a + b)
unfolding state_after
state_after-add x a zero = let e : a ≡ a + 0 = omega arith in ap (state_after x) e
state_after-add x a (suc b) = let e : suc (a + b) ≡ a + suc b = omega arith in ap next (state_after-add x a b) ∙ ap (state_after x) e

-- the high w bits of a state are a number of w bits
pub draw-lt : (x w : ℕ) → w ≤ 64 → next x / 2 ^ (64 - w) < 2 ^ w
unfolding next
draw-lt x w most =
    let whole : w + (64 - w) ≡ 64 = omega arith in
    let fits : (6364136223846793005 * x + 1442695040888963407) % 2 ^ 64 < 2 ^ 64 = mod-lt _ (lit< tt) in
    shr_lt w (64 - w) (subst (λ n. (6364136223846793005 * x + 1442695040888963407) % 2 ^ 64 < 2 ^ n) (sym whole) fits)
