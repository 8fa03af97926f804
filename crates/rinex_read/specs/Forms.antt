-- File formats: what distinguishes the files of one RINEX version from those of another.
use Rattle.std.specs.Prelude.{◌≡◌, ℕ, ◌==◌, ◌&&◌, Bool, false, List, [], ◌∷◌, map, take, get_or}
use Rattle.scaled_decimal.specs.NumberReading.{trim_start, trim_end, is_decimal}
use Rattle.rinex_read.specs.declared.judged.Judged.{Judged}
use Rattle.rinex_read.specs.declared.judged.Judged.TheVariants as judgments
use Rattle.rinex_read.specs.declared.judged.ItemRead.{ItemRead}
use Rattle.rinex_read.specs.declared.judged.ItemRead.TheVariants.{Item, Refused, PassedOver}
use Rattle.rinex_read.specs.Lines.{columns}
use Rattle.rinex_read.specs.Kept.{padded}
use Rattle.rinex_read.specs.Judging.{judged}

-- a format of navigation files, whose records give values of the type R
pub record Form (R : Type 0) : Type 0 where
  -- the text in columns 1-9 of the first line, without blanks around it, is a version of the format
  pub names : List ℕ → Bool
  -- a line with this first character begins a record
  pub starts : ℕ → Bool
  -- what a record gives, by the number of its first line and its lines, the title included
  pub judged : ℕ → List (List ℕ) → R

-- only the first eighteen lines of a record, and of each the first 80 characters, matter
abbrev pub LooksAtKept : {R : Type 0} → Form R → Type 0
LooksAtKept f = (number : ℕ) (lines : List (List ℕ)) → f.judged number (map padded (take 18 lines)) ≡ f.judged number lines

-- what holds of each value that a record gives
abbrev pub GivesWhole : {R : Type 0} → Form R → (R → Type 0) → Type 0
GivesWhole f whole = (number : ℕ) (lines : List (List ℕ)) → whole (f.judged number lines)

-- the result for a record that begins at this line
abbrev pub read_at : ℕ → Judged → ItemRead
read_at n (judgments.Item item) = Item n item
read_at n (judgments.Refused reason) = Refused n reason
read_at n judgments.PassedOver = PassedOver n

-- the version, in columns 1-9 with blanks around it allowed, is one of the format
unfoldable pub is_version : {R : Type 0} → Form R → List ℕ → Bool
is_version f line = f.names (trim_end (trim_start (columns 0 9 line)))

-- the line begins a record
abbrev pub begins : {R : Type 0} → Form R → List ℕ → Bool
begins f line = f.starts (get_or line 0 32)

-- `4.` and one digit or two
abbrev pub is_four : List ℕ → Bool
is_four (a ∷ b ∷ c ∷ []) = a == 52 && b == 46 && is_decimal c
is_four (a ∷ b ∷ c ∷ d ∷ []) = a == 52 && b == 46 && is_decimal c && is_decimal d
is_four _ = false

-- version 4: a record begins with `>`
abbrev pub rinex4 : Form ItemRead
rinex4 = record { names = is_four; starts = λ c. c == 62; judged = λ number lines. read_at number (judged lines) }
