-- Each received part has its fields within their widths, and a satellite of its system.
use Rattle.std.proofs.Common.{◌≡◌, ℕ, ◌⊎◌, List, All, Ok, sym, ap, subst, ◌∙◌, ⊎_elim}
use Rattle.std.proofs.lemmas.Bool.{cond_both}
use Rattle.std.proofs.lemmas.List.Elements.{All-contains}
use Rattle.nav_io.specs.Lines.{Line}
use Rattle.nav_eph.specs.Satellite.{Satellite, IsSat}
use Rattle.nav_eph.specs.Values.{HasBodyRanges, HasPartRanges}
use Rattle.nav_eph.specs.declared.part.Part.{Part}
use Rattle.nav_eph.specs.declared.sat.System.{System}
use Rattle.lnav_subframe.specs.Reading.{subframe_of}
use Rattle.inav.specs.Pages.{word_of}
use Rattle.inav.specs.Received.{StampedHalf}
use Rattle.inav.specs.Reading.{reading_of, all_parts as word_parts}
use Rattle.inav.specs.declared.parts.WordParts.{WordParts}
use Rattle.framing.specs.State.{payload_of}
use Rattle.rtcm_eph.specs.Reading.{content_of, parts_of as message_of, all_parts as message_parts}
use Rattle.rtcm_eph.specs.declared.read.MessageParts.{MessageParts}
use Rattle.capture_lines.specs.Late.{IsAccepted}
use Rattle.capture_lines.specs.Reading.{item_of}
use Rattle.capture_lines.specs.Spellings.{StandsFor}
use Rattle.capture_lines.specs.declared.item.LineItem.{LineItem}
use Rattle.capture_lines.specs.declared.item.LineItem.TheVariants.{Pass, Lnav, Half, Frame}
use Rattle.capture_lines.specs.declared.item.LineItem.TheVariants.{Malformed as MalformedItem}
use Rattle.capture_log.specs.declared.event.Event.TheVariants.{Received}
use Rattle.capture_log.specs.Events.{of_frame, of_word, item_line}
use Rattle.capture_log.specs.Received.{IsOfSubframe, IsOfFrame, IsOfWord, IsPartReceived}
use Rattle.capture_log.specs.Log.{line_items_of}
use Rattle.capture_log.proofs.Lists.{contains_from_in, in_from_contains, in_map, in_middle}
use Rattle.capture_log.proofs.ReceivedValues.{subframe_read, word_read, frame_read}

-- the satellite is one of its system
abbrev IsRanged : Satellite → Type 0
IsRanged sat = IsSat sat.system sat.number

-- and so is that of an item
abbrev HasSat : LineItem → Type 0
HasSat (Lnav stamp sat bits) = IsRanged sat
HasSat (Half stamp sat signal bits) = IsRanged sat
HasSat _ = Unit {0}

item_sat : (line : List ℕ) (item : LineItem) → StandsFor item line → HasSat item
item_sat line Pass h = tt
item_sat line (Lnav stamp sat bits) h = subst (λ (s : System). IsSat s sat.number) (sym h.system) h.number
item_sat line (Half stamp sat signal bits) h = subst (λ (s : System). IsSat s sat.number) (sym h.system) h.number
item_sat line (Frame stamp bytes) h = tt
item_sat line MalformedItem h = tt

line_sat : ((line : List ℕ) → StandsFor (item_of line) line) → (line : Line) → HasSat (item_line line)
line_sat stands line =
    cond_both line.long MalformedItem (item_of line.text) HasSat (λ long. tt) (λ short. item_sat line.text (item_of line.text) (stands line.text))

-- what is read has each field within its width and the sender's satellite; that of a message is one of its system
pub record ReadsRanges : Type 0 where
  pub subframes : (bits : List ℕ) (sat : Satellite) (stamp : ℕ) (part : Part) → subframe_of bits sat stamp ≡ Ok part → HasBodyRanges part.body
  pub subframe_sats : (bits : List ℕ) (sat : Satellite) (stamp : ℕ) (part : Part) → subframe_of bits sat stamp ≡ Ok part → part.sat ≡ sat
  pub words : (bits : List ℕ) (sat : Satellite) (stamp : ℕ) (parts : WordParts) → reading_of bits sat stamp ≡ Ok parts
      → All (λ part. HasBodyRanges part.body) (word_parts parts)
  pub word_sats : (bits : List ℕ) (sat : Satellite) (stamp : ℕ) (parts : WordParts) → reading_of bits sat stamp ≡ Ok parts
      → All (λ part. part.sat ≡ sat) (word_parts parts)
  pub messages : (payload : List ℕ) (stamp : ℕ) (parts : MessageParts) → message_of stamp (content_of payload) ≡ Ok parts
      → All HasPartRanges (message_parts parts)

module _ (laws : ReadsRanges) (stands : (line : List ℕ) → StandsFor (item_of line) line) (w : ℕ) (lines : List Line) (part : Part) where
  accepted_sat : (item : LineItem) → IsAccepted w (line_items_of lines) item → HasSat item
  accepted_sat item h =
      let line = in_map item_line lines item (in_middle h.before h.after (line_items_of lines) item h.place) in
      subst HasSat line.2 (line_sat stands line.0)

  subframe_ranges : IsOfSubframe w (line_items_of lines) part → HasPartRanges part
  subframe_ranges h =
      let read = subframe_read (subframe_of h.bits h.sat h.stamp) part h.is in
      record {
        sat = subst IsRanged (sym (laws.subframe_sats h.bits h.sat h.stamp part read)) (accepted_sat (Lnav h.stamp h.sat h.bits) h.accepted);
        body = laws.subframes h.bits h.sat h.stamp part read;
      }

  frame_ranges : IsOfFrame w (line_items_of lines) part → HasPartRanges part
  frame_ranges h =
      let own = frame_read h.stamp h.bytes part (in_from_contains (of_frame h.stamp h.bytes) (Received part) h.is) in
      All-contains HasPartRanges (message_parts own.parts) part (laws.messages (payload_of h.bytes) h.stamp own.parts own.read)
      (contains_from_in (message_parts own.parts) part own.here)

  word_ranges : IsOfWord w (line_items_of lines) part → HasPartRanges part
  word_ranges h =
      let bits = word_of h.even.half h.odd.half in
      let read = reading_of bits h.odd.sat h.odd.stamp in
      let own = word_read read part (in_from_contains (of_word read) (Received part) h.is) in
      let here = contains_from_in (word_parts own.parts) part own.here in
      let from : part.sat ≡ h.odd.sat =
      All-contains (λ p. p.sat ≡ h.odd.sat) (word_parts own.parts) part (laws.word_sats bits h.odd.sat h.odd.stamp own.parts own.read) here in
      let odd = h.heard.odd_among in
      let of_line : h.odd.sat ≡ odd.sat = ap (λ (half : StampedHalf). half.sat) odd.half_is in
      record {
        sat = subst IsRanged (sym (from ∙ of_line)) (accepted_sat (Half odd.stamp odd.sat odd.signal odd.bits) odd.accepted);
        body = All-contains (λ p. HasBodyRanges p.body) (word_parts own.parts) part (laws.words bits h.odd.sat h.odd.stamp own.parts own.read) here;
      }

  pub heard_ranges : IsPartReceived w (line_items_of lines) part → HasPartRanges part
  heard_ranges h =
      ⊎_elim
      (λ (one : IsOfSubframe w (line_items_of lines) part). subframe_ranges one)
      (λ (rest : IsOfFrame w (line_items_of lines) part ⊎ IsOfWord w (line_items_of lines) part).
      ⊎_elim (λ (one : IsOfFrame w (line_items_of lines) part). frame_ranges one) (λ (one : IsOfWord w (line_items_of lines) part). word_ranges one) rest)
      h
