-- The messages of a list of bytes, by the set of offsets at which they begin.
use Rattle.std.specs.Prelude.{◌≡◌, ℕ, zero, suc, ◌+◌, ◌<◌, ◌≤◌, ◌&&◌, ◌↔◌, nat_lt, nat_le, Bool}
use Rattle.std.specs.Prelude.{true, IsTrue, if◌then◌else◌, List, [], ◌∷◌, take, drop}
use Rattle.framing.specs.Messages.{Format}

-- the size of the message that begins at offset p, or 0 if none does
abbrev pub size_at : Format → List ℕ → ℕ → ℕ
size_at format bytes p = format.size (drop p bytes)

-- An offset is chosen exactly if a message begins there and no chosen message before it reaches
-- past it.
pub record AreChosen (format : Format) (bytes : List ℕ) (chosen : ℕ → Bool) : Type 0 where
  pub exactly : (p : ℕ) → IsTrue (chosen p)
      ↔ ((0 < size_at format bytes p)
      × ((q : ℕ) → IsTrue (chosen q) → q < p → q + size_at format bytes q ≤ p))

-- the furthest end of the chosen messages that begin before offset p, by the sizes of the messages at all offsets
abbrev pub reach : (ℕ → ℕ) → ℕ → ℕ
reach size zero = 0
reach size (suc p) = if nat_le (reach size p) p
    && nat_lt 0 (size p) then p + size p else reach size p

-- whether offset p is chosen: a message begins there, and the chosen ones before it end by there
abbrev pub chosen_by : (ℕ → ℕ) → ℕ → Bool
chosen_by size p = nat_le (reach size p) p && nat_lt 0 (size p)

-- whether an offset is chosen in these bytes
abbrev pub is_chosen : Format → List ℕ → ℕ → Bool
is_chosen format bytes = chosen_by (size_at format bytes)

-- the messages at the chosen offsets, ascending; the bytes are those from offset p on
abbrev pub messages_from : Format → (ℕ → Bool) → ℕ → List ℕ → List (List ℕ)
messages_from format chosen p [] = []
messages_from format chosen p (x ∷ xs) =
    if chosen p then take (format.size (x ∷ xs)) (x ∷ xs) ∷ messages_from format chosen (p + 1) xs
    else messages_from format chosen (p + 1) xs

-- At offset p an incomplete message begins, and no chosen message before it reaches past p.
pub record IsUnfinished (format : Format) (bytes : List ℕ) (chosen : ℕ → Bool)
    (p : ℕ) : Type 0 where
  pub opens : format.is_open (drop p bytes) ≡ true
  pub outside : (q : ℕ) → IsTrue (chosen q) → q < p → q + size_at format bytes q ≤ p

-- the least such offset
pub record IsOpenPlace (format : Format) (bytes : List ℕ) (chosen : ℕ → Bool) (o : ℕ) : Type 0 where
  pub unfinished : IsUnfinished format bytes chosen o
  pub least : (p : ℕ) → p < o → IsUnfinished format bytes chosen p → ⊥
