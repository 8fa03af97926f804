-- Ends in a set of time tags: those with no other time tag in the window after them.
use Rattle.std.specs.Prelude.{ℕ, ◌+◌, ◌<◌, ◌≤◌, ◌⊎◌}

-- something was received at e, and nothing in the window after e
pub record IsEnd (window : ℕ) (received_at : ℕ → Type 0) (e : ℕ) : Type 0 where
  pub heard : received_at e
  pub quiet : (s : ℕ) → received_at s → e < s → e + window < s

-- e is the first end at or after the time tag s
pub record IsEndOf (window : ℕ) (received_at : ℕ → Type 0) (e s : ℕ) : Type 0 where
  pub is_end : IsEnd window received_at e
  pub after : s ≤ e
  pub first : (other : ℕ) → IsEnd window received_at other → s ≤ other → e ≤ other

-- the second set has the time tags of the first, and further ones only from the watermark on
pub record IsLaterSet (watermark : ℕ) (old new : ℕ → Type 0) : Type 0 where
  pub keeps : (s : ℕ) → old s → new s
  pub later : (s : ℕ) → new s → old s ⊎ (watermark ≤ s)
