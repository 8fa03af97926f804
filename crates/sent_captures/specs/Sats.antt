-- The number of satellites of a generated capture.
use Rattle.std.specs.Prelude.{◌≤◌, ℕ}

-- 1 to 32 satellites of each system
abbrev pub IsSats : ℕ → Type 0
IsSats sats = (1 ≤ sats) × (sats ≤ 32)
