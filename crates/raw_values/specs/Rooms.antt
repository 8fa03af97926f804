-- Texts in buffers.
use Rattle.std.specs.Prelude.{◌≡◌, ℕ, List, length, take, drop}

-- A buffer has the prefix of a text that fits, and used is the length of the complete text. What is
-- after it is unchanged.
pub record StandsIn (old new : List ℕ) (used : ℕ) (text : List ℕ) : Type 0 where
  pub size : used ≡ length text
  pub prefix : take used new ≡ take (length new) text
  pub behind : drop used new ≡ drop used old

-- nothing is put into a buffer
pub record IsLeft (old new : List ℕ) (used : ℕ) : Type 0 where
  pub none : used ≡ 0
  pub same : new ≡ old
