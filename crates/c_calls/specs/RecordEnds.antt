-- If the header of a file of records and each of its records end, in the bytes of it that have come
-- so far.
use Rattle.std.specs.Prelude.{◌≡◌, ◌<◌, ◌≤◌, ◌⊎◌, ◌+◌, ◌++◌, ℕ, Bool, true, false, List, [], ◌∷◌, length, take, drop, Ok, Err}
use Rattle.rinex_read.specs.Files.{Body, header_passed, up_to_next}
use Rattle.rinex_read.specs.Forms.{Form, begins}
use Rattle.rinex_read.specs.Lines.{ended_lines, lines_of}
use Rattle.rinex_read.specs.declared.judged.HeaderFault.TheVariants.{NotRinexNav}

-- no line after the first begins a record
abbrev pub AreOfOne : {R : Type 0} → Form R → List (List ℕ) → Type 0
AreOfOne f [] = Unit {0}
AreOfOne f (l ∷ ls) = up_to_next f ls ≡ ls

-- the first line begins a record
abbrev pub BeginsOne : {R : Type 0} → Form R → List (List ℕ) → Type 0
BeginsOne f [] = ⊥
BeginsOne f (l ∷ ls) = begins f l ≡ true

-- after the end of a file nothing follows
abbrev pub MayFollow : Bool → List ℕ → Type 0
MayFollow is_end following = is_end ≡ true → following ≡ []

-- So many bytes of a text are its first record: the lines up to the next that begins one, whatever follows, or up to the end.
pub record EndsRecord {R : Type 0} (f : Form R) (text : List ℕ) (is_end : Bool) (size : ℕ) : Type 0 where
  pub within : size ≤ length text
  -- its lines are the first of the file, and those after it the others
  pub lines : 0 < size → (following : List ℕ) → MayFollow is_end following
      → lines_of (text ++ following) ≡ lines_of (take size text) ++ lines_of (drop size text ++ following)
  pub one : AreOfOne f (lines_of (take size text))
  pub next : 0 < size → (following : List ℕ) → MayFollow is_end following
      → ((is_end ≡ true) × (size ≡ length text)) ⊎ BeginsOne f (lines_of (drop size text ++ following))
  -- more bytes have to come, or there is none
  pub more : size ≡ 0 → is_end ≡ false → AreOfOne f (ended_lines text)
  pub none : size ≡ 0 → is_end ≡ true → text ≡ []

-- So many bytes of a text are a header, with the line that ends it, whatever follows.
pub record EndsHeader (text : List ℕ) (size : ℕ) : Type 0 where
  pub within : size ≤ length text
  pub header : 0 < size → (number : ℕ) (following : List ℕ) → header_passed number (lines_of (text ++ following))
      ≡ Ok (record { number = number + length (lines_of (take size text)); lines = lines_of (drop size text ++ following) })
  -- no line that has ended does so
  pub none : size ≡ 0 → (number : ℕ) → header_passed number (ended_lines text) ≡ Err NotRinexNav
