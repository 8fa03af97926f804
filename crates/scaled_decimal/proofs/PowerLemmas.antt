-- Powers of ten and of two as fractions.
use Rattle.std.proofs.Common.{◌≡◌, ℕ, ◌+◌, ◌*◌, ◌^◌, ◌<◌, ◌≤◌, ap, ◌∙◌, arith, ℤ, pos, negsuc, ◌-ℤ◌}
use Rattle.std.proofs.Math.Nat.{one-le-pow}
use Rattle.std.proofs.lemmas.Nat.{pow-add}
use Rattle.std.proofs.lemmas.Int.{ints}
use Rattle.scaled_decimal.specs.Fractions.{ten_to}

pub power_pos : (k : ℕ) → 0 < 10 ^ k
power_pos k = let one : 1 ≤ 10 ^ k = one-le-pow k 10 (omega arith) in omega arith

pub ten_over_pos : (z : ℤ) → 0 < (ten_to z).over
ten_over_pos (pos k) = power_pos k
ten_over_pos (negsuc k) = omega arith

pub ten_under_pos : (z : ℤ) → 0 < (ten_to z).under
ten_under_pos (pos k) = omega arith
ten_under_pos (negsuc k) = power_pos (k + 1)

-- where z is a - b, ten to z is 10^a over 10^b
pub crossed : (z : ℤ) (a b : ℕ) → z ≡ pos a -ℤ pos b → (ten_to z).over * 10 ^ b ≡ (ten_to z).under * 10 ^ a
crossed (pos k) a b e =
    let sum : a ≡ k + b = omega (arith, ints) in
    let power : 10 ^ a ≡ 10 ^ k * 10 ^ b = ap (λ n. 10 ^ n) sum ∙ pow-add 10 k b in
    omega arith
crossed (negsuc k) a b e =
    let sum : b ≡ (k + 1) + a = omega (arith, ints) in
    let power : 10 ^ b ≡ 10 ^ (k + 1) * 10 ^ a = ap (λ n. 10 ^ n) sum ∙ pow-add 10 (k + 1) a in
    omega arith
