-- The capture that transmits items, as lines, and other captures with lines of it.
use Rattle.std.specs.Prelude.{◌≡◌, ℕ, false, drop, List, Contains, Some}
use Rattle.nav_io.specs.Lines.{Line, lines_by}
use Rattle.nav_eph.specs.declared.part.Part.{Part}
use Rattle.nav_eph.specs.declared.items.NavItem.{NavItem}
use Rattle.capture_lines.specs.Late.{stamp_of}
use Rattle.capture_lines.specs.declared.item.LineItem.{LineItem}
use Rattle.capture_log.specs.Log.{line_items_of, parts_of}
use Rattle.sent_captures.specs.Sendable.{sent_text}

-- the lines after the first of the capture that transmits a list of items, for the reference week r
abbrev pub sent_capture : ℕ → List NavItem → List Line
sent_capture r items = drop 1 (lines_by false (sent_text r items))

-- each line of the first with a time tag is a line of the second
abbrev pub IsOfLines : List Line → List Line → Type 0
IsOfLines some other =
    (item : LineItem) (s : ℕ) → stamp_of item ≡ Some s → Contains (line_items_of some) item → Contains (line_items_of other) item

-- each part received in the first is received in the second, with a window of 7,200 s
abbrev pub IsStillReceived : List Line → List Line → Type 0
IsStillReceived some other = (part : Part) → Contains (parts_of 7200 some) part → Contains (parts_of 7200 other) part
