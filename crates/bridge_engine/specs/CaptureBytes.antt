-- When bytes are a capture, and what each of its lines encodes, in terms of the capture format.
use Rattle.std.specs.Prelude.{◌≡◌, ◌⊎◌, ℕ, true, false, List, [], ◌∷◌, Option, Some}
use Rattle.nav_io.specs.Lines.{Line, lines_by}
use Rattle.capture_lines.specs.Heads.{IsHead}
use Rattle.capture_lines.specs.Spellings.{StandsFor}
use Rattle.capture_lines.specs.declared.head.CaptureHead.{CaptureHead}
use Rattle.capture_lines.specs.declared.item.LineItem.{LineItem}
use Rattle.capture_lines.specs.declared.item.LineItem.TheVariants.{Malformed}
use Rattle.captures.specs.Captures.{Capture, week_for}

-- The bytes are the capture `c`. The first line has at most 2,200 bytes and is a head with the capture's window. The capture's
-- week is the one that the command line or the head names; one of them must name it, and if both do they must agree. The lines
-- after the first are the capture's lines.
pub record IsCapture (week : Option ℕ) (bytes : List ℕ) (c : Capture) : Type 0 where
  pub first : Line
  pub lines : lines_by false bytes ≡ first ∷ c.lines
  pub short : first.long ≡ false
  pub head : CaptureHead
  pub says : IsHead head first.text
  pub window : c.window ≡ head.window
  pub week_is : week_for week head.week ≡ Some c.week

-- the line encodes the item; a line of more than 2,200 bytes is malformed
abbrev pub IsItemOf : Line → LineItem → Type 0
IsItemOf line item = ((line.long ≡ true) × (item ≡ Malformed)) ⊎ ((line.long ≡ false) × StandsFor item line.text)

-- the lines encode the items, one each and in order
abbrev pub StandFor : List Line → List LineItem → Type 0
StandFor [] [] = Unit {0}
StandFor (line ∷ lines) (item ∷ items) = IsItemOf line item × StandFor lines items
StandFor lines items = ⊥
