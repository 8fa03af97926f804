-- Formats whose messages give their size in their first bytes.
use Rattle.std.specs.Prelude.{◌≡◌, ℕ, ◌+◌, ◌<◌, ◌≤◌, ◌&&◌, nat_lt, nat_le, Bool, true, false}
use Rattle.std.specs.Prelude.{if◌then◌else◌, List, [], ◌∷◌, ◌++◌, length, take}
use Rattle.framing.specs.Messages.{Format}

-- how messages of a format begin, and which are right
pub record Heading : Type 0 where
  -- the first byte of each message
  pub first : ℕ
  -- the bytes agree with the start of a message, as far as they go
  pub begins : List ℕ → Bool
  -- how many bytes are needed to know more; once there are as many, the size of the message
  pub wanted : List ℕ → ℕ
  -- the size of the longest message
  pub longest : ℕ
  -- a complete message has the right checksum
  pub is_right : List ℕ → Bool

-- what the headings of all formats have in common
pub record IsHeading (h : Heading) : Type 0 where
  -- a message begins with its first byte
  pub starts : (x : ℕ) (xs : List ℕ) → (x ≡ h.first → ⊥) → h.begins (x ∷ xs) ≡ false
  pub some : (xs : List ℕ) → 0 < h.wanted xs
  pub most : (xs : List ℕ) → h.wanted xs ≤ h.longest
  -- bytes that begin no message begin none, whatever follows
  pub refused : (xs ys : List ℕ) → h.begins xs ≡ false → h.begins (xs ++ ys) ≡ false
  -- bytes with a complete message begin the same message, whatever follows
  pub whole : (xs ys : List ℕ) → h.begins xs ≡ true → h.wanted xs ≤ length xs
      → (h.begins (xs ++ ys) ≡ true) × (h.wanted (xs ++ ys) ≡ h.wanted xs)
  -- with fewer bytes than wanted, nothing more is known
  pub waits : (xs ys : List ℕ) → h.begins xs ≡ true → length xs + length ys < h.wanted xs
      → (h.begins (xs ++ ys) ≡ true) × (h.wanted (xs ++ ys) ≡ h.wanted xs)

-- the size of the complete message of right checksum at the start of the bytes; 0 if there is none
abbrev pub size_by : Heading → List ℕ → ℕ
size_by h xs = if h.begins xs && nat_le (h.wanted xs) (length xs)
    && h.is_right (take (h.wanted xs) xs) then h.wanted xs else 0

-- the bytes begin with an incomplete message
abbrev pub opens_by : Heading → List ℕ → Bool
opens_by h [] = false
opens_by h (x ∷ xs) = h.begins (x ∷ xs) && nat_lt (length (x ∷ xs)) (h.wanted (x ∷ xs))

-- the format of a heading
abbrev pub format_of : Heading → Format
format_of h = record { size = size_by h; is_open = opens_by h }
