-- Each part of a capture's lines is one that its satellite can send.
use Rattle.std.proofs.Common.{◌≡◌, ℕ, ◌+◌, inl, inr, if◌then◌else◌, List, [], ◌∷◌, All, Ok, refl}
use Rattle.std.proofs.Common.{subst, ⊎_elim}
use Rattle.std.proofs.lemmas.Bool.{cond_both}
use Rattle.std.proofs.lemmas.List.Elements.{All-contains}
use Rattle.nav_io.specs.Lines.{Line}
use Rattle.nav_eph.specs.Conditions.{IsPart}
use Rattle.nav_eph.specs.Satellite.{Satellite}
use Rattle.nav_eph.specs.declared.part.Part.{Part}
use Rattle.nav_eph.specs.declared.sat.System.TheVariants.{Gps, Gal}
use Rattle.inav.specs.Pages.{kind_of}
use Rattle.inav.specs.Received.{StampedHalf, stamp_by}
use Rattle.inav.specs.Reading.{reading_of, all_parts as word_parts}
use Rattle.inav.specs.declared.parts.WordParts.{WordParts}
use Rattle.framing.specs.State.{payload_of}
use Rattle.rtcm_eph.specs.Reading.{content_of, parts_of as message_of, all_parts as message_parts}
use Rattle.rtcm_eph.specs.declared.read.MessageParts.{MessageParts}
use Rattle.capture_lines.specs.Reading.{item_of}
use Rattle.capture_lines.specs.Spellings.{StandsFor}
use Rattle.capture_lines.specs.declared.item.LineItem.{LineItem}
use Rattle.capture_lines.specs.declared.item.LineItem.TheVariants.{Pass, Lnav, Half, Frame}
use Rattle.capture_lines.specs.declared.item.LineItem.TheVariants.{Malformed as MalformedItem}
use Rattle.lnav_subframe.specs.Reading.{subframe_of}
use Rattle.capture_log.specs.declared.event.Event.{Event}
use Rattle.capture_log.specs.declared.event.Event.TheVariants.{Received, Malformed, Late, Unused}
use Rattle.capture_log.specs.Events.{Known, nothing_known, of_subframe, of_frame, of_word, half_of}
use Rattle.capture_log.specs.Events.{is_alert, is_late, of_words, new_words, events_of, known_with}
use Rattle.capture_log.specs.Events.{item_line}
use Rattle.capture_log.specs.Log.{line_items_of, log_from, parts_in, parts_of}
use Rattle.capture_log.proofs.Lists.{In, all_in, contains_from_in, in_flat_map, in_map}
use Rattle.capture_log.proofs.ReceivedValues.{subframe_read, word_read, frame_read}
use Rattle.capture_log.proofs.LaterParts.{no_part, single}
use Rattle.capture_log.proofs.AllItems.{first_or_later}

-- subframes are of GPS, and page parts of Galileo
abbrev pub HasSystem : LineItem → Type 0
HasSystem (Lnav stamp sat bits) = sat.system ≡ Gps
HasSystem (Half stamp sat signal bits) = sat.system ≡ Gal
HasSystem _ = Unit {0}

abbrev pub IsSendable : Part → Type 0
IsSendable part = IsPart part.sat part.body

-- what is read of a satellite of its system can be sent by it
pub record ReadsSendable : Type 0 where
  pub subframes : (bits : List ℕ) (sat : Satellite) (stamp : ℕ) (part : Part) → sat.system ≡ Gps
      → subframe_of bits sat stamp ≡ Ok part → IsSendable part
  pub words : (bits : List ℕ) (sat : Satellite) (stamp : ℕ) (parts : WordParts) → sat.system ≡ Gal
      → reading_of bits sat stamp ≡ Ok parts
      → All IsSendable (word_parts parts)
  pub messages : (payload : List ℕ) (stamp : ℕ) (parts : MessageParts)
      → message_of stamp (content_of payload) ≡ Ok parts
      → All IsSendable (message_parts parts)

module _ (laws : ReadsSendable) (w : ℕ) (known : Known) (part : Part) where
  words_sendable : (taken : StampedHalf) (words : List (List ℕ)) → taken.sat.system ≡ Gal
      → In (of_words taken words) (Received part) → IsSendable part
  words_sendable taken words system h =
      let stamp = stamp_by (kind_of taken.half) taken.stamp in
      let word = in_flat_map (λ word. of_word (reading_of word taken.sat stamp)) words (Received part) h in
      let own = word_read (reading_of word.0 taken.sat stamp) part word.2 in
      All-contains IsSendable (word_parts own.parts) part (laws.words word.0 taken.sat stamp own.parts system own.read)
      (contains_from_in (word_parts own.parts) part own.here)

  frame_sendable : (stamp : ℕ) (bytes : List ℕ) → In (of_frame stamp bytes) (Received part)
      → IsSendable part
  frame_sendable stamp bytes h =
      let own = frame_read stamp bytes part h in
      All-contains IsSendable (message_parts own.parts) part (laws.messages (payload_of bytes) stamp own.parts own.read)
      (contains_from_in (message_parts own.parts) part own.here)

  events_sendable : (item : LineItem) → HasSystem item → In (events_of w known item) (Received part)
      → IsSendable part
  unfolding events_of
  events_sendable Pass system h = absurd h
  events_sendable MalformedItem system h = absurd (no_part Malformed part (λ e. (cc)) h)
  events_sendable (Lnav stamp sat bits) system h =
      let event = of_subframe (subframe_of bits sat stamp) in
      cond_both (is_late w known stamp) (Late ∷ []) (event ∷ []) (λ es. In es (Received part) → IsSendable part)
      (λ late k. absurd (no_part Late part (λ e. (cc)) k))
      (λ timely k. laws.subframes bits sat stamp part system (subframe_read (subframe_of bits sat stamp) part (single event part k)))
      h
  events_sendable (Frame stamp bytes) system h =
      cond_both (is_late w known stamp) (Late ∷ []) (of_frame stamp bytes.items) (λ es. In es (Received part) → IsSendable part)
      (λ late k. absurd (no_part Late part (λ e. (cc)) k))
      (λ timely k. frame_sendable stamp bytes.items k)
      h
  events_sendable (Half stamp sat signal bits) system h =
      let own = half_of stamp sat signal bits in
      let Is : List Event → Type 0 = λ es. In es (Received part) → IsSendable part in
      let words = of_words own (new_words known.halves own) in
      cond_both (is_late w known stamp) (Late ∷ []) (if is_alert bits then Unused ∷ [] else words) Is
      (λ late k. absurd (no_part Late part (λ e. (cc)) k))
      (λ timely. cond_both (is_alert bits) (Unused ∷ []) words Is
      (λ alert k. absurd (no_part Unused part (λ e. (cc)) k))
      (λ nominal k. words_sendable own (new_words known.halves own) system k))
      h

log_sendable : (laws : ReadsSendable) (w : ℕ) (known : Known) (number : ℕ) (items : List LineItem) (part : Part)
    → ((item : LineItem) → In items item → HasSystem item)
    → In (parts_in (log_from w known number items)) part → IsSendable part
log_sendable laws w known number [] part systems h = absurd h
log_sendable laws w known number (item ∷ items) part systems h =
    ⊎_elim
    (λ (first : In (events_of w known item) (Received part)). events_sendable laws w known part item (systems item (inl refl)) first)
    (λ (rest : In (parts_in (log_from w (known_with w known item) (number + 1) items)) part).
    log_sendable laws w (known_with w known item) (number + 1) items part (λ other there. systems other (inr there)) rest)
    (first_or_later w known number item items part h)

-- the satellites of a line's item
item_system : (line : List ℕ) (item : LineItem) → StandsFor item line → HasSystem item
item_system line Pass h = tt
item_system line (Lnav stamp sat bits) h = h.system
item_system line (Half stamp sat signal bits) h = h.system
item_system line (Frame stamp bytes) h = tt
item_system line MalformedItem h = tt

line_system : ((line : List ℕ) → StandsFor (item_of line) line) → (line : Line)
    → HasSystem (item_line line)
line_system stands line =
    cond_both line.long MalformedItem (item_of line.text) HasSystem (λ long. tt) (λ short. item_system line.text (item_of line.text) (stands line.text))

pub lines_sendable : (laws : ReadsSendable) → ((line : List ℕ) → StandsFor (item_of line) line)
    → (w : ℕ) (lines : List Line)
    → All IsSendable (parts_of w lines)
lines_sendable laws stands w lines =
    all_in IsSendable (parts_of w lines)
    (λ part h. log_sendable laws w nothing_known 2 (line_items_of lines) part
    (λ item there. let line = in_map item_line lines item there in subst HasSystem line.2 (line_system stands line.0)) h)
