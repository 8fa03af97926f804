-- The frames in a list of bytes by the offsets at which they begin.
use Rattle.std.specs.Prelude.{◌≡◌, ℕ, zero, suc, ◌+◌, ◌<◌, ◌≤◌, ◌&&◌, ◌↔◌, nat_lt, nat_le, Bool, true, IsTrue, if◌then◌else◌, List, [], ◌∷◌, take, drop}
use Rattle.framing.specs.Frames.{frame_size, is_open}

-- the size of the frame that begins at offset p, or 0 if there is none
abbrev pub size_at : List ℕ → ℕ → ℕ
size_at bytes p = frame_size (drop p bytes)

-- An offset is chosen exactly if a frame begins there and the offset is inside no chosen frame that
-- begins earlier.
pub record AreChosen (bytes : List ℕ) (chosen : ℕ → Bool) : Type 0 where
  pub exactly : (p : ℕ) → IsTrue (chosen p) ↔ ((0 < size_at bytes p) × ((q : ℕ) → IsTrue (chosen q) → q < p → q + size_at bytes q ≤ p))

-- the end of the last chosen frame that begins before offset p, given the size of the frame at each offset
abbrev pub reach : (ℕ → ℕ) → ℕ → ℕ
reach size zero = 0
reach size (suc p) = if nat_le (reach size p) p && nat_lt 0 (size p) then p + size p else reach size p

-- whether offset p is chosen: a frame begins there, and the chosen ones before it end at or before it
abbrev pub chosen_by : (ℕ → ℕ) → ℕ → Bool
chosen_by size p = nat_le (reach size p) p && nat_lt 0 (size p)

-- whether an offset in these bytes is chosen
abbrev pub is_chosen : List ℕ → ℕ → Bool
is_chosen bytes = chosen_by (size_at bytes)

-- the frames at the chosen offsets, ascending; the bytes begin at offset p
abbrev pub frames_from : (ℕ → Bool) → ℕ → List ℕ → List (List ℕ)
frames_from chosen p [] = []
frames_from chosen p (x ∷ xs) =
    if chosen p then take (frame_size (x ∷ xs)) (x ∷ xs) ∷ frames_from chosen (p + 1) xs else frames_from chosen (p + 1) xs

-- An incomplete frame begins at p, inside no chosen frame that begins earlier.
pub record IsUnfinished (bytes : List ℕ) (chosen : ℕ → Bool) (p : ℕ) : Type 0 where
  pub opens : is_open (drop p bytes) ≡ true
  pub outside : (q : ℕ) → IsTrue (chosen q) → q < p → q + size_at bytes q ≤ p

-- the first offset of an unfinished frame
pub record IsOpenPlace (bytes : List ℕ) (chosen : ℕ → Bool) (o : ℕ) : Type 0 where
  pub unfinished : IsUnfinished bytes chosen o
  pub least : (p : ℕ) → p < o → IsUnfinished bytes chosen p → ⊥
