-- The pseudo-random number generator, a linear congruential one of 64 bits, and its draws.
use Rattle.std.specs.Prelude.{ℕ, zero, suc, ◌+◌, ◌-◌, ◌*◌, ◌/◌, ◌%◌, ◌^◌, ℤ}
use Rattle.nav_bits.specs.Signed.{signed_of}

-- the next state
unfoldable pub next : ℕ → ℕ
next x = (6364136223846793005 * x + 1442695040888963407) % 2 ^ 64

-- the state k steps after the state x
unfoldable pub state_after : ℕ → ℕ → ℕ
state_after x zero = x
state_after x (suc k) = next (state_after x k)

-- draw k, counted from 0, from the state x: the high bits, as many as the width, of the state after it
unfoldable pub draw : ℕ → ℕ → ℕ → ℕ
draw x k width = state_after x (suc k) / 2 ^ (64 - width)

-- a draw in two's complement
abbrev pub draw_signed : ℕ → ℕ → ℕ → ℤ
draw_signed x k width = signed_of width (draw x k width)
