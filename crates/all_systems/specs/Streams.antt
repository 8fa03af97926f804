-- What a run over a stream of all systems writes and counts.
use Rattle.std.specs.Prelude.{ℕ, ◌+◌, ◌/◌, ◌%◌, ◌||◌, Bool, true, false, List, [], ◌∷◌, ◌++◌, codes, decimal, length, map, sum, if◌then◌else◌, Option, None, Some, Result, Ok, Err}
use Rattle.std.proofs.Common.{inl, inr}
use Rattle.std.specs.List.{flat_map}
use Rattle.std.specs.BTreeMap.{is_at}
use Rattle.nav_eph.specs.Items.{same_item}
use Rattle.nav_eph.specs.declared.items.NavItem.{NavItem}
use Rattle.nav_rows.specs.declared.encode.EncodeFault.{EncodeFault}
use Rattle.nav_rows.specs.Encoding.{message_of}
use Rattle.nav_rows.specs.Order.{KindRow, by_rank}
use Rattle.nav_rows.specs.Rows.{body_text, record_text}
use Rattle.one_run.specs.Runs.{Meaning}
use Rattle.streams.specs.Targets.{back_text, item_text, prefix_text}
use Rattle.streams.specs.Times.{with_time}
use Rattle.streams.specs.declared.target.Target.{Target}
use Rattle.streams.specs.declared.target.Target.TheVariants.{Rinex, Rinex3, Rtcm, ToList, Count}
use Rattle.streams.specs.declared.times.Times.{Times}
use Rattle.rinex_write.specs.Fields.{epoch_of}
use Rattle.framing.specs.Writing.{frame_bytes}
use Rattle.streams.specs.Streams.{stream_counts_text}
use Rattle.streams.specs.Taken.{frames_meaning_by}
use Rattle.streams.specs.declared.counts.StreamCounts.{StreamCounts}
use Rattle.all_systems.specs.Readings.{Item, Reading, is_refused, is_unused, readings, readings_report}
use Rattle.all_systems.specs.declared.kinds.Kinds.{Kinds}

-- ---- the items of a stream, each once

-- an item with the number of its frame
abbrev pub Numbered : Type 0
Numbered = ℕ × Item

-- duplicates: ephemerides of GPS or Galileo I/NAV that are equal, or rows of one rank
abbrev pub same : Item → Item → Bool
same (inl a) (inl b) = same_item a b
same (inl a) (inr y) = false
same (inr x) (inl b) = false
same (inr x) (inr y) = is_at (by_rank x) y

-- whether a duplicate of the item is in the list
abbrev pub has : List Numbered → Item → Bool
has [] item = false
has (i ∷ is) item = same i.1 item || has is item

-- of items that follow those in `before`, the first of duplicates
abbrev pub firsts_behind : List Numbered → List Numbered → List Numbered
firsts_behind before [] = []
firsts_behind before (i ∷ is) = if has before i.1 then firsts_behind (i ∷ before) is else i ∷ firsts_behind (i ∷ before) is

-- the items of readings, the first of which is that of the frame with this number
abbrev pub items_from : ℕ → List Reading → List Numbered
items_from number [] = []
items_from number (Ok item ∷ xs) = (number, item) ∷ items_from (number + 1) xs
items_from number (Err fault ∷ xs) = items_from (number + 1) xs

-- the items of frames, the first of duplicates
abbrev pub items_of : List Reading → List Numbered
items_of xs = firsts_behind [] (items_from 1 xs)

-- the ephemerides of GPS and Galileo I/NAV among items
abbrev pub navs : List Numbered → List NavItem
navs [] = []
navs ((number, inl item) ∷ is) = item ∷ navs is
navs ((number, inr x) ∷ is) = navs is

-- ---- their texts

-- the frame of a message, if there is one
abbrev pub message_text : Result (List ℕ) EncodeFault → List ℕ
message_text (Ok bytes) = frame_bytes bytes
message_text (Err fault) = []

-- there is a message
abbrev pub has_message : Result (List ℕ) EncodeFault → Bool
has_message (Ok bytes) = true
has_message (Err fault) = false

-- the satellite of a row: the letter of its system, and two digits
abbrev pub satellite_text : KindRow → List ℕ
satellite_text x = x.kind.letter ∷ (48 + x.row.number / 10 % 10) ∷ (48 + x.row.number % 10) ∷ []

-- the line of a row in a list: the number of its frame, satellite, message type, and its epoch as week and second
unfoldable pub row_line : ℕ → KindRow → List ℕ
row_line number x =
    ((((((((decimal number ++ codes " EPH ") ++ satellite_text x) ++ codes " ") ++ x.kind.title.now) ++ codes " ")
    ++ decimal (x.row.moment / 604800)) ++ codes " ") ++ decimal (x.row.moment % 604800)) ++ codes "\n"

-- the text of a row
abbrev pub row_text : Target → ℕ → KindRow → List ℕ
row_text (Rinex words) number x = record_text x.kind x.row
row_text (Rinex3 words) number x = body_text x.kind x.row
row_text Rtcm number x = message_text (message_of x.kind x.row)
row_text ToList number x = row_line number x
row_text Count number x = []

-- the text of an item
abbrev pub text_of : Target → Numbered → List ℕ
text_of to (number, inl item) = item_text to number item
text_of to (number, inr x) = row_text to number x

-- what is written of readings while more may come
abbrev pub output_of : Target → List Reading → List ℕ
output_of to xs = prefix_text to ++ flat_map (text_of to) (items_of xs)

-- ---- the counts

-- the epoch of an item
abbrev pub epoch_in : Item → Option ℕ
epoch_in (inl item) = epoch_of item
epoch_in (inr x) = Some x.row.moment

-- the first and the last epoch of items
abbrev pub times_with : Option Times → List Numbered → Option Times
times_with times [] = times
times_with times (i ∷ is) = times_with (with_time times (epoch_in i.1)) is

-- the counts of readings
abbrev pub counts_of : List Reading → StreamCounts
counts_of xs = record {
  frames = length xs;
  refused = sum (map is_refused xs);
  unused = sum (map is_unused xs);
  items = length (items_of xs);
  times = times_with None (items_of xs);
}

-- ---- the run

-- what is written of frames, and of all frames
abbrev pub text_by : Kinds → Target → ℕ → List (List ℕ) → List ℕ
text_by ks to r frames = output_of to (readings ks r frames)

abbrev pub whole_by : Kinds → Target → ℕ → List (List ℕ) → List ℕ
whole_by ks to r frames = text_by ks to r frames ++ back_text to (stream_counts_text (counts_of (readings ks r frames)))

-- what is reported of frames, and of all frames
abbrev pub decided_by : Kinds → ℕ → List (List ℕ) → List ℕ
decided_by ks r frames = readings_report 1 (readings ks r frames)

abbrev pub reported_by : Kinds → ℕ → List (List ℕ) → List ℕ
reported_by ks r frames = decided_by ks r frames ++ stream_counts_text (counts_of (readings ks r frames))

-- the meaning of the run
abbrev pub systems_meaning : Kinds → Target → ℕ → Meaning StreamCounts
systems_meaning ks to r = frames_meaning_by (text_by ks to r) (whole_by ks to r) (decided_by ks r) (reported_by ks r) (λ frames. counts_of (readings ks r frames))
