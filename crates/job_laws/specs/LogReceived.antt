-- The parts that are received from the capture of a log.
use Rattle.std.specs.Prelude.{◌≡◌, ℕ, false, List, [], ◌∷◌, Option, Some, None}
use Rattle.nav_eph.specs.declared.part.Part.{Part}
use Rattle.capture_lines.specs.declared.item.LineItem.{LineItem}
use Rattle.capture_lines.specs.Heads.{head_of}
use Rattle.capture_log.specs.Events.{nothing_known}
use Rattle.capture_log.specs.Log.{line_items_of, log_from, parts_in, parts_of}
use Rattle.nav_io.specs.Lines.{Line, lines_by}
use Rattle.receiver_log.specs.declared.reception.Reception.{Reception}
use Rattle.job_laws.specs.LogItems.{items_of_log, week_of_log}

-- the parts received from items
abbrev pub parts_received : ℕ → List LineItem → List Part
parts_received window items = parts_in (log_from window nothing_known 2 items)

-- The text is a capture of the week of the log: its first line names the week and a window of two
-- hours, and the lines after it encode the items of the log; so the parts received from the lines
-- are those received from the items.
pub record IsReceivedAs (week : ℕ) (log : List Reception) (text : List ℕ) : Type 0 where
  pub first : List ℕ
  pub lines : List Line
  pub lines_are : lines_by false text ≡ record { text = first; long = false } ∷ lines
  pub head_is : head_of first ≡ Some (record { window = 7200; week = Some week })
  pub items_are : line_items_of lines ≡ items_of_log week log
  pub parts_are : parts_of 7200 lines ≡ parts_received 7200 (items_of_log week log)

-- a log without a week gives an empty text
abbrev pub IsReceivedBy : Option ℕ → List Reception → List ℕ → Type 0
IsReceivedBy (Some week) log text = IsReceivedAs week log text
IsReceivedBy None log text = text ≡ []

-- the text is the capture of what the log yields
abbrev pub IsReceivedThrough : List Reception → List ℕ → Type 0
IsReceivedThrough log text = IsReceivedBy (week_of_log log) log text
