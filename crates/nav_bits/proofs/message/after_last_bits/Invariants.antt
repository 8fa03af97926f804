use Rattle.std.proofs.Common.{ℕ, ◌+◌, ◌*◌, ◌^◌, ◌<◌}
use Rattle.nav_bits.specs.Bits.{number_at}
use Rattle.nav_bits.specs.Division.{IsCrc}
use Rattle.nav_bits.proofs.message.after_last_bits.Given as goal

abbrev pub invariant-loop-k : goal.invariant-loop-k
invariant-loop-k l =
    ((p : ℕ) → IsCrc p l.fn.state → IsCrc (p * 2 ^ l.k + number_at l.bytes (8 * l.byte + l.skip) l.k) l.state) × (l.state < 2 ^ 24)
