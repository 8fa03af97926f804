use Rattle.std.proofs.Common.{◌≡◌, ◌^◌, ◌≤◌, ◌<◌, ◌+◌, ℕ, length, arith}
use Rattle.std.proofs.Math.Nat.{pow-le-pow_right}
use Rattle.rinex_read.proofs.date.whole_number.Goals as goal

-- a number of few digits is small
few_digits : (number count rest shown text : ℕ) → number < 10 ^ count → count + rest ≡ shown → shown ≤ text → number < 10 ^ text
few_digits number count rest shown text small is shorter =
    let most : 10 ^ count ≤ 10 ^ text = pow-le-pow_right (omega arith) (omega arith) in
    omega arith

four_digits : (number text : ℕ) → number < 10 ^ text → text ≤ 4 → number < 65536
four_digits number text small few =
    let most : 10 ^ text ≤ 10 ^ 4 = pow-le-pow_right (omega arith) few in
    omega arith

pub returns-then-digits-ge1-clause-few : goal.returns-then-digits-ge1-clause-few
returns-then-digits-ge1-clause-few c =
    few_digits c.leading_digits-digits.result.number c.leading_digits-digits.result.count (length c.leading_digits-digits.result.rest.now) (length c.trimmed.result.now) (length c.args.text.now)
    c.leading_digits-digits.ensures.number c.leading_digits-digits.ensures.count c.trimmed.ensures.shorter
