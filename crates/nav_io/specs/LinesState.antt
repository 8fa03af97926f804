-- What a contract sees of a `Lines`, and the outcomes of a call of `next`.
use Rattle.std.specs.Prelude.{◌≡◌, ◌⊎◌, ◌+◌, ◌^◌, ◌<◌, ◌≤◌, ◌++◌, ℕ, Bool, true, false, List, [], ◌∷◌, Option, length}
use Rattle.std.specs.Io.KnownBytes.{Consumes, IsAtEnd}
use Rattle.nav_io.specs.Lines.{Line, ends, lines_by}

-- the state of a reader of lines
pub record LinesState : Type 0 where
  -- the bytes read and not yet returned; of a line not yet ended only as many as show that it is long
  pub rest : List ℕ
  -- whether a read gave no byte
  pub ended : Bool
  -- how many bytes were read
  pub taken : ℕ
  -- how many lines were returned
  pub number : ℕ
  -- the text of the line that the last call returned
  pub text : List ℕ

-- after a read that gave no byte nothing follows
abbrev pub MayFollow : Bool → Bool → List ℕ → Type 0
MayFollow ended more following = ended ≡ true → (more ≡ false) × (following ≡ [])

-- Bytes were read and lines returned: with any bytes following, the lines returned come first, then those of the new rest.
pub record Reads (left left_new : Option (List ℕ)) (old new : LinesState) (given : List Line) : Type 0 where
  -- the bytes that were read
  pub taken : List ℕ
  pub consumes : Consumes left left_new taken
  pub count : new.taken ≡ old.taken + length taken
  pub stream : (more : Bool) (following : List ℕ) → MayFollow new.ended more following
      → lines_by more (old.rest ++ (taken ++ following)) ≡ given ++ lines_by more (new.rest ++ following)
  pub at_end : new.ended ≡ true → (old.ended ≡ true) ⊎ IsAtEnd left_new
  pub after_end : old.ended ≡ true → (new.ended ≡ true) × (taken ≡ []) × (left_new ≡ left)

-- One line was returned. The new rest is what follows it in the bytes held and read.
pub record GivesLine (left left_new : Option (List ℕ)) (old new : LinesState) (line : Line) : Type 0 where
  pub reads : Reads left left_new old new (line ∷ [])
  pub number : new.number ≡ old.number + 1
  pub short : length old.rest ≤ 4096 → length new.rest ≤ 4096
  pub low : new.taken < 2 ^ 32
  pub numbered : new.number ≤ new.taken
  -- the bytes held and read up to the end of the line
  pub prefix : List ℕ
  pub split : old.rest ++ reads.taken ≡ prefix ++ new.rest

-- No line is left, and a read gave no byte.
pub record GivesEnd (left left_new : Option (List ℕ)) (old new : LinesState) : Type 0 where
  pub reads : Reads left left_new old new []
  pub rest : new.rest ≡ []
  pub ended : new.ended ≡ true
  pub number : new.number ≡ old.number
  pub low : new.taken < 2 ^ 32
  pub text : new.text ≡ []

-- A read failed: no byte read is lost, and the bytes held have no LF.
pub record BreaksRead (left left_new : Option (List ℕ)) (old new : LinesState) : Type 0 where
  pub reads : Reads left left_new old new []
  pub none : ends new.rest ≡ false
  pub short : length new.rest ≤ 2202
  pub more : new.ended ≡ false
  pub low : new.taken < 2 ^ 32
  pub number : new.number ≡ old.number
  pub text : new.text ≡ []

-- Too many bytes were read, with no LF before the piece read last.
pub record BreaksLong (left left_new : Option (List ℕ)) (old new : LinesState) : Type 0 where
  pub reads : Reads left left_new old new []
  pub too_many : new.taken ≡ 2 ^ 32
  pub number : new.number ≡ old.number
  pub text : new.text ≡ []
  -- the bytes held and read but for the last piece
  pub prefix : List ℕ
  -- the piece that was read last
  pub last : List ℕ
  pub split : old.rest ++ reads.taken ≡ prefix ++ last
  pub few : old.taken < 2 ^ 32 → length last ≤ 4096
  pub none : ends prefix ≡ false
