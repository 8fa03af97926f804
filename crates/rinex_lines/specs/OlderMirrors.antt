-- A file of RINEX 2 while it is read. Private functions cite these.
use Rattle.std.specs.Prelude.{◌≡◌, ℕ, ◌+◌, ◌-◌, ◌*◌, ◌^◌, Bool, false, List, ◌++◌, [], if◌then◌else◌, Option, Some, None}
use Rattle.rinex_lines.specs.Files.{text_from}
use Rattle.rinex_lines.specs.declared.place.Place.{Place}
use Rattle.rinex_lines.specs.declared.place.Place.TheVariants.{First}

-- what was read of a file
pub record HeldState : Type 0 where
  -- the place of the line that is begun
  pub place : Place
  -- of that line the first 81 bytes
  pub begun : List ℕ
  -- the bytes behind it
  pub piece : List ℕ
  -- what is still to be given
  pub waiting : List ℕ
  -- whether a read gave no byte
  pub ended : Bool
  -- how many bytes were read
  pub taken : ℕ

-- what is still to be given, if these bytes follow; after the end none do
abbrev pub text_to_come : HeldState → List ℕ → List ℕ
text_to_come h following = h.waiting ++ text_from h.place (h.begun ++ (h.piece ++ (if h.ended then [] else following)))

abbrev pub left_of : HeldState → Option (List ℕ) → Option (List ℕ)
left_of h None = None
left_of h (Some following) = Some (text_to_come h following)

-- the same is still to come, whatever follows
abbrev pub SameToCome : HeldState → HeldState → Type 0
SameToCome old new = (following : List ℕ) → text_to_come old following ≡ text_to_come new following

-- nothing was read
abbrev pub begun : HeldState
begun = record { place = First; begun = []; piece = []; waiting = []; ended = false; taken = 0 }

-- a bound on the reads still to come
abbrev pub steps_left : HeldState → ℕ
steps_left h = 2 * (2 ^ 64 - 1 - h.taken) + (if h.ended then 0 else 1)
