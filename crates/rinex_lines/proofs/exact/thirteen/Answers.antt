use Rattle.std.proofs.Common.{◌≡◌, ℕ, ◌-◌, ◌*◌, ◌/◌, ◌^◌, ◌<◌, ◌≤◌, sym, subst, arith}
use Rattle.rinex_lines.proofs.Spans.{power_pos}
use Rattle.rinex_lines.proofs.Places.{below_next, lifted_below, lowered_below}
use Rattle.rinex_lines.proofs.exact.thirteen.Goals as goal

lifted : (n k power : ℕ) → k ≤ 12 → n < 10 * 10 ^ k → power ≡ 10 ^ (12 - k) → n * power < 10 ^ 13
lifted n k power few h is = subst (λ i. n * i < 10 ^ 13) (sym is) (lifted_below n k (12 - k) (omega (arith, few)) (below_next n k h))

some : (power j : ℕ) → power ≡ 10 ^ j → 0 < power
some power j is = omega (arith, is, power_pos j)

pub overflow_mul-result : goal.overflow_mul-result
overflow_mul-result c =
    omega (arith, lifted c.args.digits c.args.place c.pow.result c.if-place-le12.true c.requires.digits c.pow.ensures)

pub returns-then-place-le12-clause-below : goal.returns-then-place-le12-clause-below
returns-then-place-le12-clause-below c = lifted c.args.digits c.args.place c.pow.result c.if-place-le12.true c.requires.digits c.pow.ensures

pub nonzero_rem-digits : goal.nonzero_rem-digits
nonzero_rem-digits c = some c.pow-power.result (c.args.place - 12) c.pow-power.ensures

pub nonzero_div-result : goal.nonzero_div-result
nonzero_div-result c = some c.pow-power.result (c.args.place - 12) c.pow-power.ensures

pub returns-then-digits-power-eq0-clause-below : goal.returns-then-digits-power-eq0-clause-below
returns-then-digits-power-eq0-clause-below c =
    let more = c.if-place-le12.false in
    subst (λ i. c.args.digits / i < 10 ^ 13) (sym c.pow-power.ensures)
    (lowered_below c.args.digits c.args.place (c.args.place - 12) (omega (arith, more)) (below_next c.args.digits c.args.place c.requires.digits))
