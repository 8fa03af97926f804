-- The items of a stream of RTCM frames, each at its first occurrence, and what is written and reported of the stream.
use Rattle.std.specs.Prelude.{ℕ, ◌^◌, ◌+◌, ◌-◌, ◌||◌, Bool, true, false, if◌then◌else◌, List, [], ◌∷◌, ◌++◌, length, take, codes, map, sum, Some, Result, Ok, Err}
use Rattle.std.specs.List.{flat_map}
use Rattle.nav_eph.specs.Items.{same_item}
use Rattle.nav_eph.specs.declared.items.NavItem.{NavItem}
use Rattle.framing.specs.Frames.{decided, frames}
use Rattle.framing.specs.State.{payload_of}
use Rattle.rtcm_eph.specs.Reading.{item_in}
use Rattle.rtcm_eph.specs.declared.fault.MessageFault.{MessageFault}
use Rattle.rtcm_eph.specs.declared.fault.MessageFault.TheVariants.{NoNumber, OtherMessage, Short, BadSat, BadTime, SpareSisa}
use Rattle.one_run.specs.Reports.{report_line, count_line}
use Rattle.one_run.specs.Runs.{Meaning}
use Rattle.streams.specs.declared.stream_target.StreamTo.{StreamTo}
use Rattle.streams.specs.declared.counts.StreamCounts.{StreamCounts}
use Rattle.streams.specs.Targets.{prefix_text, item_text}
use Rattle.streams.specs.Times.{times_of}
use Rattle.streams.specs.StreamTargets.{target_of_stream}

-- the reading of a frame: its item for the reference week r, or the first error
abbrev pub Reading : Type 0
Reading = Result NavItem MessageFault

-- the readings of frames
abbrev pub readings : ℕ → List (List ℕ) → List Reading
readings r frames = map (λ frame. item_in r (payload_of frame)) frames

-- the items among readings
abbrev pub items_of_readings : List Reading → List NavItem
items_of_readings [] = []
items_of_readings (Ok item ∷ rs) = item ∷ items_of_readings rs
items_of_readings (Err fault ∷ rs) = items_of_readings rs

-- whether the item is in the list
abbrev pub has : List NavItem → NavItem → Bool
has [] item = false
has (i ∷ is) item = same_item i item || has is item

-- of items that follow those in `before`, each at its first occurrence
abbrev pub first_places_behind : List NavItem → List NavItem → List NavItem
first_places_behind before [] = []
first_places_behind before (i ∷ is) =
    if has before i then first_places_behind (i ∷ before) is else i ∷ first_places_behind (i ∷ before) is

-- items, each at its first occurrence
abbrev pub first_places : List NavItem → List NavItem
first_places items = first_places_behind [] items

-- the readings of the frames of the bytes
abbrev pub stream_readings : ℕ → List ℕ → List Reading
stream_readings r bytes = readings r (frames bytes)

-- the items of a stream
abbrev pub stream_list : ℕ → List ℕ → List NavItem
stream_list r bytes = first_places (items_of_readings (stream_readings r bytes))

-- the report line of the frame with this number; empty for an item and for a frame that is not used
abbrev pub reading_report : ℕ → Reading → List ℕ
reading_report number (Ok item) = []
reading_report number (Err NoNumber) = []
reading_report number (Err (OtherMessage other)) = []
reading_report number (Err Short) = report_line (codes "frame") number (codes "short")
reading_report number (Err BadSat) = report_line (codes "frame") number (codes "satellite")
reading_report number (Err BadTime) = report_line (codes "frame") number (codes "time")
reading_report number (Err SpareSisa) = report_line (codes "frame") number (codes "sisa")

-- the report lines of frames, the first of which has this number
abbrev pub readings_report : ℕ → List Reading → List ℕ
readings_report number [] = []
readings_report number (r ∷ rs) = reading_report number r ++ readings_report (number + 1) rs

-- 1 for a rejected frame, else 0
abbrev pub is_refused : Reading → ℕ
is_refused (Ok item) = 0
is_refused (Err NoNumber) = 0
is_refused (Err (OtherMessage other)) = 0
is_refused (Err Short) = 1
is_refused (Err BadSat) = 1
is_refused (Err BadTime) = 1
is_refused (Err SpareSisa) = 1

-- 1 for a frame that is not used, else 0
abbrev pub is_unused : Reading → ℕ
is_unused (Ok item) = 0
is_unused (Err NoNumber) = 1
is_unused (Err (OtherMessage other)) = 1
is_unused (Err Short) = 0
is_unused (Err BadSat) = 0
is_unused (Err BadTime) = 0
is_unused (Err SpareSisa) = 0

-- the counts of readings
abbrev pub counts_of_readings : List Reading → StreamCounts
counts_of_readings rs = record {
  frames = length rs;
  refused = sum (map is_refused rs);
  unused = sum (map is_unused rs);
  items = length (first_places (items_of_readings rs));
  times = times_of (first_places (items_of_readings rs));
}

-- the counts of the frames of the bytes
abbrev pub stream_counts : ℕ → List ℕ → StreamCounts
stream_counts r bytes = counts_of_readings (stream_readings r bytes)

-- the text of the counts: a line for each, in the order of the fields
unfoldable pub stream_counts_text : StreamCounts → List ℕ
stream_counts_text c =
    ((count_line (codes "frames") c.frames ++ count_line (codes "refused") c.refused)
    ++ count_line (codes "unused") c.unused) ++ count_line (codes "items") c.items

-- what is written of readings: a leading text, and one for each item
abbrev pub readings_output : List ℕ → (NavItem → List ℕ) → List Reading → List ℕ
readings_output prefix text rs = prefix ++ flat_map text (first_places (items_of_readings rs))

-- the output for a stream's bytes
abbrev pub stream_output_by : List ℕ → (NavItem → List ℕ) → ℕ → List ℕ → List ℕ
stream_output_by prefix text r bytes = readings_output prefix text (stream_readings r bytes)

-- the report of a stream's bytes: a line for each rejected frame, and the counts
abbrev pub stream_report : ℕ → List ℕ → List ℕ
stream_report r bytes =
    readings_report 1 (stream_readings r bytes) ++ stream_counts_text (stream_counts r bytes)

-- the readings of the decided frames of the bytes: those that no following bytes change
abbrev pub flushed_readings : ℕ → List ℕ → List Reading
flushed_readings r bytes = readings r (decided bytes)

-- the output and report of bytes that no following bytes change: the leading text, and what the decided frames give
abbrev pub flushed_output_by : List ℕ → (NavItem → List ℕ) → ℕ → List ℕ → List ℕ
flushed_output_by prefix text r bytes = readings_output prefix text (flushed_readings r bytes)

-- the least that was written of the bytes taken, whatever fails: what all but the last 16,384 bytes
-- decide (one read asks for so many); nothing if no byte was taken
abbrev pub least_output_by : List ℕ → (NavItem → List ℕ) → ℕ → List ℕ → List ℕ
least_output_by prefix text r [] = []
least_output_by prefix text r (b ∷ bs) = flushed_output_by prefix text r (take (length (b ∷ bs) - 16384) (b ∷ bs))

-- the least that was reported of them: the lines of the frames that all but the last 16,384 bytes decide
abbrev pub least_report : ℕ → List ℕ → List ℕ
least_report r bytes = readings_report 1 (flushed_readings r (take (length bytes - 16384) bytes))

-- the meaning of a run over a stream, with a leading text and one for each item
abbrev pub stream_meaning_by : List ℕ → (NavItem → List ℕ) → ℕ → Meaning StreamCounts
stream_meaning_by prefix text r = record {
  reads = true;
  reports = true;
  memory = true;
  limit = 2 ^ 32;
  counts = λ bytes. Some (stream_counts r bytes);
  whole = record { output = stream_output_by prefix text r; report = stream_report r };
  rejections = λ bytes. readings_report 1 (stream_readings r bytes);
  least = record { output = least_output_by prefix text r; report = least_report r };
  flushed = Some (record { output = flushed_output_by prefix text r; report = λ bytes. readings_report 1 (flushed_readings r bytes) });
}

-- the same, by the target that a conversion names
abbrev pub stream_meaning : StreamTo → ℕ → Meaning StreamCounts
stream_meaning to r = stream_meaning_by (prefix_text (target_of_stream to)) (item_text (target_of_stream to) 0) r
