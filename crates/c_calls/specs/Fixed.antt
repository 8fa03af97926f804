-- What contracts see of a sink of fixed size.
use Rattle.std.specs.Prelude.{ℕ, List}

-- the bytes written, and the count of writes that failed
pub record FixedState : Type 0 where
  pub bytes : List ℕ
  pub faults : ℕ
