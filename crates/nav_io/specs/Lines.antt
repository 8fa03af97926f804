-- The lines of bytes: the pieces between LF (10), each without a CR (13) at its end.
use Rattle.std.specs.Prelude.{◌≡◌, ◌≤◌, ℕ, ◌==◌, nat_lt, Bool, true, false, if◌then◌else◌, List, [], ◌∷◌, length, take, map}

-- whether the bytes contain an LF
abbrev pub ends : List ℕ → Bool
ends [] = false
ends (x ∷ xs) = if x == 10 then true else ends xs

-- Puts byte x before the first of the lines that follow; if there are none, x is a line without LF,
-- which counts only if no more bytes may come.
abbrev pub with_prefix : Bool → ℕ → List (List ℕ) → List (List ℕ)
with_prefix more x [] = if more then [] else (x ∷ []) ∷ []
with_prefix more x (line ∷ lines) = (x ∷ line) ∷ lines

-- the pieces between LFs; if more bytes may come, only those that an LF ends
abbrev pub pieces : Bool → List ℕ → List (List ℕ)
pieces more [] = []
pieces more (x ∷ xs) = if x == 10 then [] ∷ pieces more xs else with_prefix more x (pieces more xs)

-- a line without the CR at its end
abbrev pub without_cr : List ℕ → List ℕ
without_cr [] = []
without_cr (x ∷ []) = if x == 13 then [] else x ∷ []
without_cr (x ∷ y ∷ ys) = x ∷ without_cr (y ∷ ys)

-- what is seen of a line: its first 2,200 bytes, and whether it is longer
pub record Line : Type 0 where
  -- its first 2,200 bytes
  pub text : List ℕ
  -- whether it is longer
  pub long : Bool

-- the line of a piece: without CR at the end, cut to 2,200 bytes
unfoldable pub line_of : List ℕ → Line
line_of piece = record { text = take 2200 (without_cr piece); long = nat_lt 2200 (length (without_cr piece)) }

-- the lines of the bytes; if more bytes may come, only those that an LF ends
abbrev pub lines_by : Bool → List ℕ → List Line
lines_by more bytes = map line_of (pieces more bytes)

-- a line that is read back unchanged: no LF, no CR at its end, at most 2,200 bytes
pub record IsOneLine (line : List ℕ) : Type 0 where
  pub none : ends line ≡ false
  pub last : without_cr line ≡ line
  pub short : length line ≤ 2200
