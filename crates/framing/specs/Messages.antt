-- The messages of a list of bytes, for any format of messages.
use Rattle.std.specs.Prelude.{◌≡◌, ℕ, zero, suc, ◌-◌, ◌≤◌, ◌&&◌, nat_lt, Bool, true, false}
use Rattle.std.specs.Prelude.{if◌then◌else◌, List, [], ◌∷◌, ◌++◌, length, take, drop}

-- a format of messages
pub record Format : Type 0 where
  -- the size of the complete message of right checksum at the start of the bytes; 0 if there is
  -- none
  pub size : List ℕ → ℕ
  -- the bytes begin with an incomplete message
  pub is_open : List ℕ → Bool

-- what all formats have in common
pub record IsFormat (format : Format) : Type 0 where
  -- the message is inside the bytes
  pub size_le : (xs : List ℕ) → format.size xs ≤ length xs
  -- no bytes are no incomplete message
  pub none_open : format.is_open [] ≡ true → ⊥
  -- an incomplete message is not a complete one
  pub size_of_open : (xs : List ℕ) → format.is_open xs ≡ true → format.size xs ≡ 0
  -- unless a message is incomplete, more bytes do not change what begins here
  pub size_append : (x : ℕ) (xs ys : List ℕ) → format.is_open (x ∷ xs) ≡ false
      → format.size (x ∷ (xs ++ ys)) ≡ format.size (x ∷ xs)

-- The messages after the first k bytes: a complete message, then those after its end; else those from the next byte on.
-- Where more bytes may come, only those before the first incomplete message.
abbrev pub messages_past : Format → Bool → List ℕ → ℕ → List (List ℕ)
messages_past format more [] k = []
messages_past format more (x ∷ xs) (suc k) = messages_past format more xs k
messages_past format more (x ∷ xs) zero =
    if more && format.is_open (x ∷ xs) then []
    else if nat_lt 0 (format.size (x ∷ xs))
    then take (format.size (x ∷ xs)) (x ∷ xs)
    ∷ messages_past format more xs (format.size (x ∷ xs) - 1)
    else messages_past format more xs 0

-- the messages of the bytes
abbrev pub messages : Format → List ℕ → List (List ℕ)
messages format bytes = messages_past format false bytes 0

-- the decided messages: those that stay, whatever bytes follow
abbrev pub decided : Format → List ℕ → List (List ℕ)
decided format bytes = messages_past format true bytes 0

-- after the first k bytes, the bytes from the first incomplete message on
abbrev pub open_past : Format → List ℕ → ℕ → List ℕ
open_past format [] k = []
open_past format (x ∷ xs) (suc k) = open_past format xs k
open_past format (x ∷ xs) zero =
    if format.is_open (x ∷ xs) then x ∷ xs
    else if nat_lt 0 (format.size (x ∷ xs)) then open_past format xs (format.size (x ∷ xs) - 1)
    else open_past format xs 0

-- the bytes from the first incomplete message on; none if there is no such message
abbrev pub undecided : Format → List ℕ → List ℕ
undecided format bytes = open_past format bytes 0

-- the bytes after the first message
abbrev pub after_first : Format → List ℕ → List ℕ
after_first format [] = []
after_first format (x ∷ xs) =
    if nat_lt 0 (format.size (x ∷ xs)) then drop (format.size (x ∷ xs))
    (x ∷ xs) else after_first format xs
