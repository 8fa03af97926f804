-- The tables of a mover; only its invariant and contracts of its parts cite them.
use Rattle.std.specs.Prelude.{◌≡◌, ℕ, ◌*◌, ◌^◌, ◌<◌, List, slice_index}
use Rattle.nav_bits.specs.Register.{shift}

-- x^n times each value of the low, middle and high byte of the register
pub record AreMoved (n : ℕ) (low middle high : List ℕ) : Type 0 where
  pub ends : (d : ℕ) → d < 256 → slice_index low d ≡ shift n d
  pub middles : (d : ℕ) → d < 256 → slice_index middle d ≡ shift n (d * 2 ^ 8)
  pub heads : (d : ℕ) → d < 256 → slice_index high d ≡ shift n (d * 2 ^ 16)
