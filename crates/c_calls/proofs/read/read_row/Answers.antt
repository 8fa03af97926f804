use Rattle.std.proofs.Common.{◌<◌, ◌^◌, ℕ, sym, subst, arith}
use Rattle.nav_bits.specs.Laws.{number_at-lt}
use Rattle.c_calls.proofs.read.read_row.Goals as goal

pub overflow_cast-message : goal.overflow_cast-message
overflow_cast-message c =
    let few : c.number_in_bytes-message.result < 2 ^ 12 =
    subst (λ (n : ℕ). n < 2 ^ 12) (sym c.number_in_bytes-message.ensures) (number_at-lt c.args.payload.now 0 12) in
    omega (arith, few)

pub overflow_cast-satellite : goal.overflow_cast-satellite
overflow_cast-satellite c =
    let few : c.number_in_bytes-satellite.result < 2 ^ 6 =
    subst (λ (n : ℕ). n < 2 ^ 6) (sym c.number_in_bytes-satellite.ensures) (number_at-lt c.args.payload.now 12 6) in
    omega (arith, few)
