use Rattle.std.proofs.Common.{◌≡◌, ℕ, ◌*◌, ◌^◌, ◌<◌, slice_index, ◌≤◌}
use Rattle.nav_bits.specs.Register.{shift}
use Rattle.nav_bits.proofs.mover.fill.Given as goal

abbrev pub invariant-loop-half : goal.invariant-loop-half
invariant-loop-half l = record {
  some : 1 ≤ l.half;
  fits : (d : ℕ) → d < 2 * l.half → slice_index l.entries d < 2 ^ 24;
  values : (n : ℕ) → l.one ≡ shift n 1 → (d : ℕ) → d < 2 * l.half → slice_index l.entries d ≡ shift n d;
}
