-- The log of a capture: the events of its lines in order, each with its line number.
use Rattle.std.specs.Prelude.{ℕ, ◌+◌, ◌-◌, List, [], ◌∷◌, ◌++◌, map}
use Rattle.std.specs.List.{flat_map}
use Rattle.nav_io.specs.Lines.{Line}
use Rattle.nav_eph.specs.declared.part.Part.{Part}
use Rattle.capture_lines.specs.declared.item.LineItem.{LineItem}
use Rattle.capture_log.specs.Events.{Known, nothing_known, known_with, events_of, item_line}
use Rattle.capture_log.specs.declared.event.Event.{Event}
use Rattle.capture_log.specs.declared.event.Event.TheVariants.{Received}

-- an event, with the number of its line
pub record Noted : Type 0 where
  pub line : ℕ
  pub event : Event

-- the events of one line, with its number
abbrev pub noted : ℕ → List Event → List Noted
noted number events = map (λ event. record { line = number; event = event }) events

-- the items of the lines
abbrev pub line_items_of : List Line → List LineItem
line_items_of lines = map item_line lines

-- the state after the items
abbrev pub known_from : ℕ → Known → List LineItem → Known
known_from window known [] = known
known_from window known (item ∷ items) = known_from window (known_with window known item) items

-- the log of the items, the first having this line number
abbrev pub log_from : ℕ → Known → ℕ → List LineItem → List Noted
log_from window known number [] = []
log_from window known number (item ∷ items) =
    noted number (events_of window known item)
    ++ log_from window (known_with window known item) (number + 1) items

-- the parts of an event, and of a log
abbrev pub parts_of_event : Event → List Part
parts_of_event (Received part) = part ∷ []
parts_of_event _ = []

abbrev pub parts_in : List Noted → List Part
parts_in log = flat_map (λ n. parts_of_event n.event) log

-- the log of the lines of a capture after the first, numbered from 2
abbrev pub log_of : ℕ → List Line → List Noted
log_of window lines = log_from window nothing_known 2 (line_items_of lines)

-- the received parts in the log
abbrev pub parts_of : ℕ → List Line → List Part
parts_of window lines = parts_in (log_of window lines)

-- the watermark after the lines, the greatest time tag less the window, at least 0; no accepted
-- line comes from before it
abbrev pub watermark_after : ℕ → List Line → ℕ
watermark_after window lines = (known_from window nothing_known (line_items_of lines)).greatest - window
