-- The lines of bytes, by a property that determines them.
use Rattle.std.specs.Prelude.{◌≡◌, ◌≢◌, ◌⊎◌, ◌++◌, ℕ, false, List, [], ◌∷◌, All}
use Rattle.std.specs.List.{flat_map}
use Rattle.nav_io.specs.Lines.{ends}

-- the pieces, each followed by an LF
abbrev pub with_ends : List (List ℕ) → List ℕ
with_ends pieces = flat_map (λ piece. piece ++ 10 ∷ []) pieces

-- the bytes are not empty, and the last is not an LF
abbrev pub HasOpenEnd : List ℕ → Type 0
HasOpenEnd bytes = (prefix : List ℕ) × (last : ℕ) × (bytes ≡ prefix ++ last ∷ []) × (last ≢ 10)

-- These are the pieces between LFs: none contains an LF, and the pieces each followed by an LF make
-- the bytes, or the bytes and one LF if they do not end in one.
pub record ArePieces (bytes : List ℕ) (pieces : List (List ℕ)) : Type 0 where
  pub none : All (λ piece. ends piece ≡ false) pieces
  pub whole : (with_ends pieces ≡ bytes) ⊎ ((with_ends pieces ≡ bytes ++ 10 ∷ []) × HasOpenEnd bytes)
