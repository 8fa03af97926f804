-- One more time tag: the ends within the window of it become one.
use Rattle.std.specs.Prelude.{◌≡◌, ℕ, ◌+◌, ◌≤◌, ◌⊎◌}
use Rattle.periods.specs.Ends.{IsEnd, IsEndOf}

-- the second set is the first with one more time tag
pub record IsWith (old new : ℕ → Type 0) (stamp : ℕ) : Type 0 where
  pub keeps : (s : ℕ) → old s → new s
  pub has : new stamp
  pub only : (s : ℕ) → new s → old s ⊎ (stamp ≡ s)

-- a time tag with the end e lies within the window of the new time tag, on either side
pub record IsTouchedEnd (window : ℕ) (received_at : ℕ → Type 0) (stamp e : ℕ) : Type 0 where
  pub member : ℕ
  pub heard : received_at member
  pub ends : IsEndOf window received_at e member
  pub not_far_after : member ≤ stamp + window
  pub not_far_before : stamp ≤ member + window

-- the end stays an end, of the same time tags
pub record StaysEnd (window : ℕ) (old new : ℕ → Type 0) (e : ℕ) : Type 0 where
  pub is_end : IsEnd window new e
  pub keeps : (s : ℕ) → old s → IsEndOf window old e s → IsEndOf window new e s
  pub adds_none : (s : ℕ) → new s → IsEndOf window new e s → old s × IsEndOf window old e s

-- an end of the second set, of the new time tag and of exactly the time tags whose ends are touched
pub record IsJoinedEnd (window : ℕ) (old new : ℕ → Type 0) (stamp e : ℕ) : Type 0 where
  pub has_new : IsEndOf window new e stamp
  pub has_touched : (touched s : ℕ) → IsTouchedEnd window old stamp touched → old s → IsEndOf window old touched s → IsEndOf window new e s
  pub no_more : (s : ℕ) → old s → IsEndOf window new e s → (touched : ℕ) × IsTouchedEnd window old stamp touched × IsEndOf window old touched s
  pub others : (other : ℕ) → IsEnd window new other → (other ≡ e) ⊎ (IsEnd window old other × (IsTouchedEnd window old stamp other → ⊥))
