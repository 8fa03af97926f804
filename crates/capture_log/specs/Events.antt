-- The events of one more line, given the state after those before it: malformed, late, or what a reader gives.
use Rattle.std.specs.Prelude.{ℕ, ◌+◌, ◌&&◌, Bool, nat_eq, nat_lt, max, if◌then◌else◌, List, [], ◌∷◌}
use Rattle.std.specs.Prelude.{length, Option, None, Some, unwrap_or, Result, Ok, Err}
use Rattle.std.specs.List.{flat_map}
use Rattle.nav_bits.specs.Bits.{number_at}
use Rattle.nav_io.specs.Lines.{Line}
use Rattle.nav_eph.specs.Satellite.{Satellite}
use Rattle.nav_eph.specs.declared.part.Part.{Part}
use Rattle.lnav_subframe.specs.declared.fault.LnavFault.{LnavFault}
use Rattle.lnav_subframe.specs.declared.fault.LnavFault.TheVariants as subframes
use Rattle.nav_eph.specs.declared.signal.Signal.{Signal}
use Rattle.inav.specs.Pages.{kept_of, kind_of}
use Rattle.inav.specs.Received.{StampedHalf, stamp_by, words_of, has_half}
use Rattle.inav.specs.Keeping.{stamped}
use Rattle.inav.specs.Reading.{reading_of}
use Rattle.inav.specs.declared.parts.WordParts.{WordParts}
use Rattle.inav.specs.declared.word_fault.WordFault.{WordFault}
use Rattle.inav.specs.declared.word_fault.WordFault.TheVariants as words
use Rattle.framing.specs.Frames.{frame_size}
use Rattle.framing.specs.State.{payload_of}
use Rattle.rtcm_eph.specs.Reading.{content_of, parts_of}
use Rattle.rtcm_eph.specs.declared.fault.MessageFault.{MessageFault}
use Rattle.rtcm_eph.specs.declared.fault.MessageFault.TheVariants as messages
use Rattle.rtcm_eph.specs.declared.read.MessageParts.{MessageParts}
use Rattle.rtcm_eph.specs.declared.read.MessageParts.TheVariants.{Gps as GpsParts, Gal as GalParts}
use Rattle.capture_lines.specs.Late.{stamp_of}
use Rattle.capture_lines.specs.Reading.{item_of}
use Rattle.capture_lines.specs.declared.item.LineItem.{LineItem}
use Rattle.capture_lines.specs.declared.item.LineItem.TheVariants.{Pass, Lnav, Half, Frame}
use Rattle.capture_lines.specs.declared.item.LineItem.TheVariants.{Malformed as MalformedItem}
use Rattle.lnav_subframe.specs.Reading.{subframe_of}
use Rattle.capture_log.specs.declared.event.EventFault.TheVariants as refusals
use Rattle.capture_log.specs.declared.event.Event.{Event}
use Rattle.capture_log.specs.declared.event.Event.TheVariants.{Received, Malformed, Late, Refused}
use Rattle.capture_log.specs.declared.event.Event.TheVariants.{Unused}

-- the event of a subframe: its part, or why it is rejected; other subframes and pages are not used
abbrev pub of_subframe : Result Part LnavFault → Event
of_subframe (Ok part) = Received part
of_subframe (Err subframes.Preamble) = Refused refusals.Preamble
of_subframe (Err (subframes.Parity word)) = Refused (refusals.Parity word)
of_subframe (Err subframes.BadTow) = Refused refusals.Tow
of_subframe (Err (subframes.Unused number page)) = Unused
of_subframe (Err subframes.BadTime) = Refused refusals.Time

-- the event of a word that is rejected or not used
abbrev pub of_word_fault : WordFault → Event
of_word_fault (words.OtherWord number) = Unused
of_word_fault words.WrongSat = Refused refusals.Satellite
of_word_fault words.BadTime = Refused refusals.Time
of_word_fault words.SpareSisa = Refused refusals.Sisa

-- the second part of a word, if there is one
abbrev pub of_second : Option Part → List Event
of_second None = []
of_second (Some part) = Received part ∷ []

-- the events of a word: its one or two parts, in order
abbrev pub of_word : Result WordParts WordFault → List Event
of_word (Ok parts) = Received parts.first ∷ of_second parts.second
of_word (Err fault) = of_word_fault fault ∷ []

-- the event of a message that is rejected or not used
abbrev pub of_message_fault : MessageFault → Event
of_message_fault messages.NoNumber = Unused
of_message_fault (messages.OtherMessage number) = Unused
of_message_fault messages.Short = Refused refusals.Short
of_message_fault messages.BadSat = Refused refusals.Satellite
of_message_fault messages.BadTime = Refused refusals.Time
of_message_fault messages.SpareSisa = Refused refusals.Sisa

-- the events of a message: the parts of its ephemeris, or its error
abbrev pub of_message : Result MessageParts MessageFault → List Event
of_message (Ok (GpsParts clock a b)) = Received clock ∷ Received a ∷ Received b ∷ []
of_message (Ok (GalParts w1 w2 w3 w4 health)) =
    Received w1 ∷ Received w2 ∷ Received w3 ∷ Received w4 ∷ Received health ∷ []
of_message (Err fault) = of_message_fault fault ∷ []

-- the bytes are exactly one complete frame with a right checksum
abbrev pub is_frame : List ℕ → Bool
is_frame bytes = nat_lt 0 (length bytes) && nat_eq (frame_size bytes) (length bytes)

-- the events of the bytes of a frame
unfoldable pub of_frame : ℕ → List ℕ → List Event
of_frame stamp bytes =
    if is_frame bytes then of_message (parts_of stamp (content_of (payload_of bytes)))
    else Refused refusals.Frame ∷ []

-- a page part as received: its used bits, with time tag, satellite and signal
abbrev pub half_of : ℕ → Satellite → Signal → List ℕ → StampedHalf
half_of stamp sat signal bits = stamped stamp sat signal (kept_of (number_at bits 0 120))

-- the page type bit is 1: an alert page
abbrev pub is_alert : List ℕ → Bool
is_alert bits = nat_eq (number_at bits 1 1) 1

-- the events of the words that a page part completes, each with the time tag of the odd part
abbrev pub of_words : StampedHalf → List (List ℕ) → List Event
of_words half words =
    flat_map (λ word. of_word (reading_of word half.sat (stamp_by (kind_of half.half) half.stamp)))
    words

-- the words that a page part completes with earlier ones; none if it was received before
abbrev pub new_words : List StampedHalf → StampedHalf → List (List ℕ)
new_words before half = if has_half before half then [] else words_of before half

-- the events of a page part; an alert page is not used
abbrev pub of_half : List StampedHalf → ℕ → Satellite → Signal → List ℕ → List Event
of_half before stamp sat signal bits =
    if is_alert bits then Unused ∷ []
    else of_words (half_of stamp sat signal bits) (new_words before (half_of stamp sat signal bits))

-- the state after some lines: their greatest time tag, and the accepted page parts, each once
pub record Known : Type 0 where
  pub greatest : ℕ
  pub halves : List StampedHalf

-- the state before the first line
abbrev pub nothing_known : Known
nothing_known = record { greatest = 0; halves = [] }

-- the time tag is before the greatest one by more than the window
abbrev pub is_late : ℕ → Known → ℕ → Bool
is_late window known stamp = nat_lt (stamp + window) known.greatest

-- the events of one more item
unfoldable pub events_of : ℕ → Known → LineItem → List Event
events_of window known Pass = []
events_of window known MalformedItem = Malformed ∷ []
events_of window known (Lnav stamp sat bits) =
    if is_late window known stamp then Late ∷ [] else of_subframe (subframe_of bits sat stamp) ∷ []
events_of window known (Half stamp sat signal bits) =
    if is_late window known stamp then Late ∷ [] else of_half known.halves stamp sat signal bits
events_of window known (Frame stamp bytes) =
    if is_late window known stamp then Late ∷ [] else of_frame stamp bytes.items

-- one more page part, each kept once
abbrev pub with_half : List StampedHalf → StampedHalf → List StampedHalf
with_half halves half = if has_half halves half then halves else half ∷ halves

-- the accepted page parts after one more item
abbrev pub halves_with : ℕ → Known → LineItem → List StampedHalf
halves_with window known (Half stamp sat signal bits) =
    if is_late window known stamp then known.halves
    else (if is_alert bits then known.halves
    else with_half known.halves (half_of stamp sat signal bits))
halves_with window known _ = known.halves

-- the state after one more item
unfoldable pub known_with : ℕ → Known → LineItem → Known
known_with window known item = record {
  greatest = max known.greatest (unwrap_or (stamp_of item) 0);
  halves = halves_with window known item;
}

-- the item of a line; one of more than 2,200 bytes is malformed
abbrev pub item_line : Line → LineItem
item_line line = if line.long then MalformedItem else item_of line.text
