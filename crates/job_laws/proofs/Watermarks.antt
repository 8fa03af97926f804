-- Late and malformed lines: no event that the content of a line yields is of these kinds.
use Rattle.std.proofs.Common.{◌≡◌, ℕ, ◌+◌, ◌<◌, ◌↔◌, Bool, List, [], ◌∷◌, Some, Contains, inl, inr, true, false, if◌then◌else◌}
use Rattle.std.proofs.Common.{refl, sym, subst, lt-ltb, ltb-true, arith}
use Rattle.std.specs.Prelude.{Option, None, Result, Ok, Err}
use Rattle.std.proofs.lemmas.Bool.{cond_both}
use Rattle.nav_eph.specs.Satellite.{Satellite}
use Rattle.nav_eph.specs.declared.part.Part.{Part}
use Rattle.nav_eph.specs.declared.signal.Signal.{Signal}
use Rattle.lnav_subframe.specs.Reading.{subframe_of}
use Rattle.lnav_subframe.specs.declared.fault.LnavFault.{LnavFault}
use Rattle.lnav_subframe.specs.declared.fault.LnavFault.TheVariants as subframes
use Rattle.inav.specs.Received.{StampedHalf, stamp_by}
use Rattle.inav.specs.Pages.{kind_of}
use Rattle.inav.specs.Reading.{reading_of}
use Rattle.inav.specs.declared.parts.WordParts.{WordParts}
use Rattle.inav.specs.declared.word_fault.WordFault.{WordFault}
use Rattle.inav.specs.declared.word_fault.WordFault.TheVariants as words
use Rattle.framing.specs.State.{payload_of}
use Rattle.rtcm_eph.specs.Reading.{content_of, parts_of}
use Rattle.rtcm_eph.specs.declared.fault.MessageFault.{MessageFault}
use Rattle.rtcm_eph.specs.declared.fault.MessageFault.TheVariants as messages
use Rattle.rtcm_eph.specs.declared.read.MessageParts.{MessageParts}
use Rattle.rtcm_eph.specs.declared.read.MessageParts.TheVariants.{Gps as GpsParts, Gal as GalParts}
use Rattle.capture_lines.specs.Late.{stamp_of, IsLate, greatest_stamp}
use Rattle.capture_lines.specs.declared.item.LineItem.{LineItem}
use Rattle.capture_lines.specs.declared.item.LineItem.TheVariants.{Pass, Lnav, Half, Frame, Malformed as MalformedItem}
use Rattle.capture_log.specs.Events.{Known, nothing_known, events_of, is_late, is_alert, is_frame, half_of, new_words}
use Rattle.capture_log.specs.Events.{of_subframe, of_second, of_word, of_message, of_frame}
use Rattle.capture_log.specs.Events.{of_words, of_half}
use Rattle.capture_log.specs.Log.{known_from, log_from}
use Rattle.capture_log.specs.declared.event.EventFault.TheVariants as refusals
use Rattle.capture_log.specs.declared.event.Event.{Event}
use Rattle.capture_log.specs.declared.event.Event.TheVariants.{Received, Malformed, Late, Refused, Unused}
use Rattle.capture_log.proofs.Surface.{In, in_from_contains, contains_from_in, in_flat_map}
use Rattle.job_laws.specs.Places.{IsAt, IsLateLine, IsMalformedLine}
use Rattle.job_laws.proofs.Yielded.{IsYielded, note, log_to, log_from_yielded, greatest_from}

-- ---- what a reader says

-- the event is one that the content of a line yields
abbrev IsReading : Event → Type 0
IsReading (Received part) = Unit {0}
IsReading Malformed = ⊥
IsReading Late = ⊥
IsReading (Refused reason) = Unit {0}
IsReading Unused = Unit {0}

AreReadings : List Event → Type 0
AreReadings events = (event : Event) → In events event → IsReading event

none_read : AreReadings []
unfolding AreReadings
none_read event h = absurd h

one_read : (first : Event) (events : List Event) → IsReading first → AreReadings events → AreReadings (first ∷ events)
unfolding AreReadings
one_read first events r rs event (inl e) = subst IsReading e r
one_read first events r rs event (inr h) = rs event h

subframe_read : (reading : Result Part LnavFault) → AreReadings (of_subframe reading ∷ [])
subframe_read (Ok part) = one_read _ [] tt none_read
subframe_read (Err subframes.Preamble) = one_read _ [] tt none_read
subframe_read (Err (subframes.Parity word)) = one_read _ [] tt none_read
subframe_read (Err subframes.BadTow) = one_read _ [] tt none_read
subframe_read (Err (subframes.Unused number page)) = one_read _ [] tt none_read
subframe_read (Err subframes.BadTime) = one_read _ [] tt none_read

second_read : (part : Option Part) → AreReadings (of_second part)
second_read None = none_read
second_read (Some part) = one_read _ [] tt none_read

word_read : (reading : Result WordParts WordFault) → AreReadings (of_word reading)
word_read (Ok parts) = one_read _ _ tt (second_read parts.second)
word_read (Err (words.OtherWord number)) = one_read _ [] tt none_read
word_read (Err words.WrongSat) = one_read _ [] tt none_read
word_read (Err words.BadTime) = one_read _ [] tt none_read
word_read (Err words.SpareSisa) = one_read _ [] tt none_read

message_read : (reading : Result MessageParts MessageFault) → AreReadings (of_message reading)
message_read (Ok (GpsParts clock a b)) = one_read _ _ tt (one_read _ _ tt (one_read _ [] tt none_read))
message_read (Ok (GalParts w1 w2 w3 w4 health)) =
    one_read _ _ tt (one_read _ _ tt (one_read _ _ tt (one_read _ _ tt (one_read _ [] tt none_read))))
message_read (Err messages.NoNumber) = one_read _ [] tt none_read
message_read (Err (messages.OtherMessage number)) = one_read _ [] tt none_read
message_read (Err messages.Short) = one_read _ [] tt none_read
message_read (Err messages.BadSat) = one_read _ [] tt none_read
message_read (Err messages.BadTime) = one_read _ [] tt none_read
message_read (Err messages.SpareSisa) = one_read _ [] tt none_read

frame_read : (stamp : ℕ) (bytes : List ℕ) → AreReadings (of_frame stamp bytes)
unfolding of_frame
frame_read stamp bytes =
    cond_both (is_frame bytes) (of_message (parts_of stamp (content_of (payload_of bytes))))
    (Refused refusals.Frame ∷ []) AreReadings
    (λ whole. message_read _) (λ not_whole. one_read _ [] tt none_read)

words_read : (half : StampedHalf) (ws : List (List ℕ)) → AreReadings (of_words half ws)
unfolding AreReadings
words_read half ws event h =
    let word = in_flat_map (λ w. of_word (reading_of w half.sat (stamp_by (kind_of half.half) half.stamp))) ws event h in
    word_read (reading_of word.0 half.sat (stamp_by (kind_of half.half) half.stamp)) event word.2

half_read : (before : List StampedHalf) (stamp : ℕ) (sat : Satellite) (signal : Signal) (bits : List ℕ)
    → AreReadings (of_half before stamp sat signal bits)
half_read before stamp sat signal bits =
    let own = half_of stamp sat signal bits in
    cond_both (is_alert bits) (Unused ∷ []) (of_words own (new_words before own)) AreReadings
    (λ alert. one_read _ [] tt none_read) (λ nominal. words_read own (new_words before own))

-- ---- the events of a line with a stamp

late_when : (late : Bool) (events : List Event) → AreReadings events → In (if late then Late ∷ [] else events) Late → late ≡ true
unfolding AreReadings
late_when true events reads h = refl
late_when false events reads h = absurd (reads Late h)

malformed_when : (late : Bool) (events : List Event) → AreReadings events → In (if late then Late ∷ [] else events) Malformed → ⊥
unfolding AreReadings
malformed_when true events reads (inl e) = cc
malformed_when true events reads (inr h) = absurd h
malformed_when false events reads h = reads Malformed h

only_malformed : In (Malformed ∷ []) Late → ⊥
only_malformed (inl e) = cc
only_malformed (inr h) = absurd h

some_one : (a b : ℕ) → Some a ≡ Some b → a ≡ b
some_one a b e = cc

none_some : (a : ℕ) → None ≡ Some a → ⊥
none_some a e = cc

module _ (w : ℕ) (known : Known) where
  late_event : (item : LineItem) → In (events_of w known item) Late
      → (stamp : ℕ) × (stamp_of item ≡ Some stamp) × (is_late w known stamp ≡ true)
  unfolding events_of
  late_event Pass h = absurd h
  late_event MalformedItem h = absurd (only_malformed h)
  late_event (Lnav stamp sat bits) h = (
    stamp,
    refl,
    late_when (is_late w known stamp) (of_subframe (subframe_of bits sat stamp) ∷ [])
        (subframe_read (subframe_of bits sat stamp)) h,
  )
  late_event (Half stamp sat signal bits) h = (
    stamp,
    refl,
    late_when (is_late w known stamp) (of_half known.halves stamp sat signal bits)
        (half_read known.halves stamp sat signal bits) h,
  )
  late_event (Frame stamp bytes) h =
      (stamp, refl, late_when (is_late w known stamp) (of_frame stamp bytes.items) (frame_read stamp bytes.items) h)

  said_late : (events : List Event) (s stamp : ℕ) → Some s ≡ Some stamp → is_late w known stamp ≡ true
      → In (if is_late w known s then Late ∷ [] else events) Late
  said_late events s stamp e late =
      let own : is_late w known s ≡ true = subst (λ t. is_late w known t ≡ true) (sym (some_one s stamp e)) late in
      subst (λ b. In (if b then Late ∷ [] else events) Late) (sym own) (inl refl)

  event_late : (item : LineItem) (stamp : ℕ) → stamp_of item ≡ Some stamp → is_late w known stamp ≡ true
      → In (events_of w known item) Late
  unfolding events_of
  event_late Pass stamp e late = absurd (none_some stamp e)
  event_late MalformedItem stamp e late = absurd (none_some stamp e)
  event_late (Lnav s sat bits) stamp e late = said_late (of_subframe (subframe_of bits sat s) ∷ []) s stamp e late
  event_late (Half s sat signal bits) stamp e late = said_late (of_half known.halves s sat signal bits) s stamp e late
  event_late (Frame s bytes) stamp e late = said_late (of_frame s bytes.items) s stamp e late

  malformed_event : (item : LineItem) → In (events_of w known item) Malformed → item ≡ MalformedItem
  unfolding events_of
  malformed_event Pass h = absurd h
  malformed_event MalformedItem h = refl
  malformed_event (Lnav stamp sat bits) h =
      absurd (malformed_when (is_late w known stamp) (of_subframe (subframe_of bits sat stamp) ∷ [])
      (subframe_read (subframe_of bits sat stamp)) h)
  malformed_event (Half stamp sat signal bits) h =
      absurd (malformed_when (is_late w known stamp) (of_half known.halves stamp sat signal bits)
      (half_read known.halves stamp sat signal bits) h)
  malformed_event (Frame stamp bytes) h =
      absurd (malformed_when (is_late w known stamp) (of_frame stamp bytes.items) (frame_read stamp bytes.items) h)

  event_malformed : In (events_of w known MalformedItem) Malformed
  unfolding events_of
  event_malformed = inl refl

-- ---- the lines of the log

module _ (late : (window : ℕ) (before : List LineItem) (stamp : ℕ)
    → IsLate window before stamp ↔ (stamp + window < greatest_stamp before)) where
  late_to : (w first : ℕ) (items : List LineItem) (number : ℕ) → IsYielded w nothing_known first items number Late
      → IsLateLine w first items number
  late_to w first items number h =
      let known = known_from w nothing_known h.at.before in
      let e = late_event w known h.item h.yields in
      let most = greatest_from w h.at.before nothing_known in
      let behind : e.0 + w < known.greatest = ltb-true (e.0 + w) known.greatest e.2 in
      record { item = h.item; at = h.at; stamp = e.0; stamp_is = e.1; late = (late w h.at.before e.0).1 (omega arith) }

  late_from : (w first : ℕ) (items : List LineItem) (number : ℕ) → IsLateLine w first items number
      → IsYielded w nothing_known first items number Late
  late_from w first items number h =
      let known = known_from w nothing_known h.at.before in
      let most = greatest_from w h.at.before nothing_known in
      let behind = (late w h.at.before h.stamp).0 h.late in
      let low : h.stamp + w < known.greatest = omega arith in
      record {
        item = h.item;
        at = h.at;
        yields = event_late w known h.item h.stamp h.stamp_is
            (lt-ltb (h.stamp + w) known.greatest low);
      }

  pub late_lines : (w first : ℕ) (items : List LineItem) (number : ℕ)
      → Contains (log_from w nothing_known first items) (note number Late) ↔ IsLateLine w first items number
  late_lines w first items number =
      let log = log_from w nothing_known first items in (
        λ h. late_to w first items number
            (log_to w items nothing_known first number Late (in_from_contains log (note number Late) h)),
        λ h. contains_from_in log (note number Late)
            (log_from_yielded w nothing_known first items number Late (late_from w first items number h)),
      )

malformed_to : (w first : ℕ) (items : List LineItem) (number : ℕ) → IsYielded w nothing_known first items number Malformed
    → IsMalformedLine first items number
malformed_to w first items number h =
    subst (IsAt first items number) (malformed_event w (known_from w nothing_known h.at.before) h.item h.yields) h.at

malformed_from : (w first : ℕ) (items : List LineItem) (number : ℕ) → IsMalformedLine first items number
    → IsYielded w nothing_known first items number Malformed
malformed_from w first items number h =
    record { item = MalformedItem; at = h; yields = event_malformed w (known_from w nothing_known h.before) }

pub malformed_lines : (w first : ℕ) (items : List LineItem) (number : ℕ)
    → Contains (log_from w nothing_known first items) (note number Malformed) ↔ IsMalformedLine first items number
malformed_lines w first items number =
    let log = log_from w nothing_known first items in (
      λ h. malformed_to w first items number
          (log_to w items nothing_known first number Malformed (in_from_contains log (note number Malformed) h)),
      λ h. contains_from_in log (note number Malformed)
          (log_from_yielded w nothing_known first items number Malformed (malformed_from w first items number h)),
    )
