use Rattle.std.proofs.Common.{◌≡◌, ℕ, ◌+◌, ◌*◌, ◌^◌, ◌<◌, ◌≤◌, sym, ap, ◌∙◌, subst, arith}
use Rattle.scaled_decimal.specs.NumberReading.{Span}
use Rattle.rinex_lines.proofs.Spans.{below_behind, below_power, span_behind}
use Rattle.rinex_lines.proofs.decimal.read_digits.Goals as goal

joined : (n k m j power : ℕ) → n < 10 ^ k → m < 10 ^ j → power ≡ 10 ^ j → n * power + m < 10 ^ (k + j)
joined n k m j power p q is = subst (λ i. n * i + m < 10 ^ (k + j)) (sym is) (below_behind n k m j p q)

fits : (n k m j power : ℕ) → n < 10 ^ k → m < 10 ^ j → power ≡ 10 ^ j → k + j ≤ 19 → n * power + m < 10 ^ 19
fits n k m j power p q is few = below_power (n * power + m) (k + j) 19 (joined n k m j power p q is) few

pub overflow_mul-result : goal.overflow_mul-result
overflow_mul-result c =
    let s = c.leading_digits-digits in
    omega (arith, fits c.args.number c.args.count s.result.number s.result.count c.pow.result c.requires.number s.ensures.number c.pow.ensures (omega (arith, s.ensures.count, c.requires.count)))

pub overflow_add-result : goal.overflow_add-result
overflow_add-result c =
    let s = c.leading_digits-digits in
    omega (arith, fits c.args.number c.args.count s.result.number s.result.count c.pow.result c.requires.number s.ensures.number c.pow.ensures (omega (arith, s.ensures.count, c.requires.count)))

pub returns-clause-read : goal.returns-clause-read
returns-clause-read c =
    let s = c.leading_digits-digits in
    let read : Span = record { number = s.result.number; count = s.result.count; rest = s.result.rest.now } in
    ap (λ i. record { number = c.args.number * i + s.result.number; count = c.args.count + s.result.count; rest = s.result.rest.now }) c.pow.ensures
    ∙ span_behind c.args.number c.args.count c.args.text.now read s.ensures.read

pub returns-clause-number : goal.returns-clause-number
returns-clause-number c =
    let s = c.leading_digits-digits in
    joined c.args.number c.args.count s.result.number s.result.count c.pow.result c.requires.number s.ensures.number c.pow.ensures
