-- A reader gives parts with the stamp of what it reads, and all received parts are values.
use Rattle.std.proofs.Common.{◌≡◌, ℕ, ◌^◌, ◌<◌, ◌⊎◌, inl, inr, List, [], ◌∷◌, All, Option, None}
use Rattle.std.proofs.Common.{Some, Result, Ok, Err, refl, sym, ap, subst, ⊎_elim}
use Rattle.std.proofs.lemmas.Bool.{cond_both}
use Rattle.std.proofs.lemmas.List.Elements.{All-contains}
use Rattle.nav_eph.specs.Satellite.{Satellite}
use Rattle.nav_eph.specs.Values.{IsPartValue}
use Rattle.nav_eph.specs.declared.part.Part.{Part}
use Rattle.lnav_subframe.specs.Reading.{subframe_of}
use Rattle.lnav_subframe.specs.declared.fault.LnavFault.{LnavFault}
use Rattle.lnav_subframe.specs.declared.fault.LnavFault.TheVariants as subframes
use Rattle.inav.specs.Pages.{word_of}
use Rattle.inav.specs.Reading.{reading_of, second_parts, all_parts as word_parts}
use Rattle.inav.specs.declared.parts.WordParts.{WordParts}
use Rattle.inav.specs.declared.word_fault.WordFault.{WordFault}
use Rattle.inav.specs.declared.word_fault.WordFault.TheVariants as words
use Rattle.framing.specs.State.{payload_of}
use Rattle.rtcm_eph.specs.Reading.{content_of, parts_of, all_parts as message_parts}
use Rattle.rtcm_eph.specs.declared.fault.MessageFault.{MessageFault}
use Rattle.rtcm_eph.specs.declared.fault.MessageFault.TheVariants as messages
use Rattle.rtcm_eph.specs.declared.read.MessageParts.{MessageParts}
use Rattle.rtcm_eph.specs.declared.read.MessageParts.TheVariants.{Gps as GpsParts, Gal as GalParts}
use Rattle.capture_lines.specs.Late.{stamp_of, IsAccepted}
use Rattle.capture_lines.specs.declared.item.LineItem.{LineItem}
use Rattle.capture_lines.specs.declared.item.LineItem.TheVariants.{Lnav, Half}
use Rattle.capture_log.specs.declared.event.Event.TheVariants.{Received, Refused}
use Rattle.capture_log.specs.declared.event.EventFault.TheVariants as refusals
use Rattle.capture_log.specs.Events.{of_subframe, of_word_fault, of_second, of_word}
use Rattle.capture_log.specs.Events.{of_message_fault, of_message, is_frame, of_frame}
use Rattle.capture_log.specs.Received.{IsOfSubframe, IsOfFrame, IsOfWord, IsPartReceived}
use Rattle.capture_log.proofs.Lists.{In, in_from_contains, contains_from_in, in_middle}

-- ---- a part that is received is one that a reader gives

heard_part : (a b : Part) → Received a ≡ Received b → a ≡ b
heard_part a b e = cc

pub subframe_read : (r : Result Part LnavFault) (part : Part) → of_subframe r ≡ Received part
    → r ≡ Ok part
subframe_read (Ok own) part e = ap Ok (heard_part own part e)
subframe_read (Err subframes.Preamble) part e = cc
subframe_read (Err (subframes.Parity word)) part e = cc
subframe_read (Err subframes.BadTow) part e = cc
subframe_read (Err (subframes.Unused number page)) part e = cc
subframe_read (Err subframes.BadTime) part e = cc

word_fault : (fault : WordFault) (part : Part) → of_word_fault fault ≡ Received part → ⊥
word_fault (words.OtherWord number) part e = cc
word_fault words.WrongSat part e = cc
word_fault words.BadTime part e = cc
word_fault words.SpareSisa part e = cc

second_read : (second : Option Part) (part : Part) → In (of_second second) (Received part)
    → In (second_parts second) part
second_read None part h = absurd h
second_read (Some own) part (inl e) = inl (heard_part own part e)
second_read (Some own) part (inr h) = absurd h

-- the part is one of a word
pub record IsWordPart (r : Result WordParts WordFault) (part : Part) : Type 0 where
  pub parts : WordParts
  pub read : r ≡ Ok parts
  pub here : In (word_parts parts) part

pub word_read : (r : Result WordParts WordFault) (part : Part) → In (of_word r) (Received part)
    → IsWordPart r part
word_read (Ok parts) part (inl e) = record { parts = parts; read = refl; here = inl (heard_part parts.first part e) }
word_read (Ok parts) part (inr h) = record { parts = parts; read = refl; here = inr (second_read parts.second part h) }
word_read (Err fault) part (inl e) = absurd (word_fault fault part e)
word_read (Err fault) part (inr h) = absurd h

message_fault : (fault : MessageFault) (part : Part) → of_message_fault fault ≡ Received part → ⊥
message_fault messages.NoNumber part e = cc
message_fault (messages.OtherMessage number) part e = cc
message_fault messages.Short part e = cc
message_fault messages.BadSat part e = cc
message_fault messages.BadTime part e = cc
message_fault messages.SpareSisa part e = cc

-- the part is one of a message
pub record IsMessagePart (r : Result MessageParts MessageFault) (part : Part) : Type 0 where
  pub parts : MessageParts
  pub read : r ≡ Ok parts
  pub here : In (message_parts parts) part

three_read : (a b c part : Part) → In (Received a ∷ Received b ∷ Received c ∷ []) (Received part)
    → In (a ∷ b ∷ c ∷ []) part
three_read a b c part (inl e) = inl (heard_part a part e)
three_read a b c part (inr (inl e)) = inr (inl (heard_part b part e))
three_read a b c part (inr (inr (inl e))) = inr (inr (inl (heard_part c part e)))
three_read a b c part (inr (inr (inr h))) = absurd h

five_read : (a b c d e part : Part)
    → In (Received a ∷ Received b ∷ Received c ∷ Received d ∷ Received e ∷ []) (Received part)
    → In (a ∷ b ∷ c ∷ d ∷ e ∷ []) part
five_read a b c d e part (inl h) = inl (heard_part a part h)
five_read a b c d e part (inr (inl h)) = inr (inl (heard_part b part h))
five_read a b c d e part (inr (inr h)) = inr (inr (three_read c d e part h))

pub message_read : (r : Result MessageParts MessageFault) (part : Part)
    → In (of_message r) (Received part) → IsMessagePart r part
message_read (Ok (GpsParts clock a b)) part h =
    record { parts = GpsParts clock a b; read = refl; here = three_read clock a b part h }
message_read (Ok (GalParts w1 w2 w3 w4 health)) part h =
    record { parts = GalParts w1 w2 w3 w4 health; read = refl; here = five_read w1 w2 w3 w4 health part h }
message_read (Err fault) part (inl e) = absurd (message_fault fault part e)
message_read (Err fault) part (inr h) = absurd h

not_refused : (part : Part) → In (Refused refusals.Frame ∷ []) (Received part) → ⊥
not_refused part (inl e) = cc
not_refused part (inr h) = absurd h

pub frame_read : (stamp : ℕ) (bytes : List ℕ) (part : Part) → In (of_frame stamp bytes) (Received part)
    → IsMessagePart (parts_of stamp (content_of (payload_of bytes))) part
unfolding of_frame
frame_read stamp bytes part h =
    let r = parts_of stamp (content_of (payload_of bytes)) in
    cond_both (is_frame bytes) (of_message r) (Refused refusals.Frame ∷ []) (λ es. In es (Received part) → IsMessagePart r part)
    (λ whole k. message_read r part k)
    (λ broken k. absurd (not_refused part k))
    h

-- ---- what holds of each part that a reader gives at a stamp holds of each received part

-- it holds of each part read at this stamp
pub record HoldsOfRead (At : ℕ → Type 0) (Is : ℕ → Part → Type 0) : Type 0 where
  pub subframes : (bits : List ℕ) (sat : Satellite) (stamp : ℕ) (part : Part) → At stamp
      → subframe_of bits sat stamp ≡ Ok part → Is stamp part
  pub words : (bits : List ℕ) (sat : Satellite) (stamp : ℕ) (parts : WordParts) → At stamp
      → reading_of bits sat stamp ≡ Ok parts
      → All (Is stamp) (word_parts parts)
  pub messages : (payload : List ℕ) (stamp : ℕ) (parts : MessageParts) → At stamp
      → parts_of stamp (content_of payload) ≡ Ok parts
      → All (Is stamp) (message_parts parts)

module _ (At : ℕ → Type 0) (Is : ℕ → Part → Type 0) (laws : HoldsOfRead At Is) where
  pub of_subframe_part : (bits : List ℕ) (sat : Satellite) (stamp : ℕ) (part : Part) → At stamp
      → of_subframe (subframe_of bits sat stamp) ≡ Received part → Is stamp part
  of_subframe_part bits sat stamp part at e = laws.subframes bits sat stamp part at (subframe_read (subframe_of bits sat stamp) part e)

  pub of_word_part : (bits : List ℕ) (sat : Satellite) (stamp : ℕ) (part : Part) → At stamp
      → In (of_word (reading_of bits sat stamp)) (Received part) → Is stamp part
  of_word_part bits sat stamp part at h =
      let own = word_read (reading_of bits sat stamp) part h in
      All-contains (Is stamp) (word_parts own.parts) part (laws.words bits sat stamp own.parts at own.read)
      (contains_from_in (word_parts own.parts) part own.here)

  pub of_frame_part : (stamp : ℕ) (bytes : List ℕ) (part : Part) → At stamp
      → In (of_frame stamp bytes) (Received part) → Is stamp part
  of_frame_part stamp bytes part at h =
      let own = frame_read stamp bytes part h in
      All-contains (Is stamp) (message_parts own.parts) part (laws.messages (payload_of bytes) stamp own.parts at own.read)
      (contains_from_in (message_parts own.parts) part own.here)

-- ---- values

-- what is read at a stamp of 32 bits is a value
abbrev pub ReadsValues : Type 0
ReadsValues = HoldsOfRead (λ stamp. stamp < 2 ^ 32) (λ stamp part. IsPartValue part)

-- the stamps of the items have 32 bits
abbrev pub StampsFit : List LineItem → Type 0
StampsFit items = All (λ item. (s : ℕ) → stamp_of item ≡ Some s → s < 2 ^ 32) items

accepted_fits : (w : ℕ) (items : List LineItem) (item : LineItem) (stamp : ℕ) → StampsFit items
    → IsAccepted w items item
    → stamp_of item ≡ Some stamp → stamp < 2 ^ 32
accepted_fits w items item stamp fit h is =
    All-contains (λ i. (s : ℕ) → stamp_of i ≡ Some s → s < 2 ^ 32) items item fit
    (contains_from_in items item (in_middle h.before h.after items item h.place)) stamp is

module _ (laws : ReadsValues) (w : ℕ) (items : List LineItem) (fit : StampsFit items) (part : Part) where
  abbrev Fits : ℕ → Type 0
  Fits stamp = stamp < 2 ^ 32

  abbrev Value : ℕ → Part → Type 0
  Value stamp p = IsPartValue p

  subframe_value : IsOfSubframe w items part → IsPartValue part
  subframe_value h =
      of_subframe_part Fits Value laws h.bits h.sat h.stamp part
      (accepted_fits w items (Lnav h.stamp h.sat h.bits) h.stamp fit h.accepted refl) h.is

  frame_value : IsOfFrame w items part → IsPartValue part
  frame_value h =
      of_frame_part Fits Value laws h.stamp h.bytes part
      (accepted_fits w items h.item h.stamp fit h.accepted (ap stamp_of h.item_is))
      (in_from_contains (of_frame h.stamp h.bytes) (Received part) h.is)

  word_value : IsOfWord w items part → IsPartValue part
  word_value h =
      let odd = h.heard.odd_among in
      let stamp_is : odd.stamp ≡ h.odd.stamp = sym (ap (λ half. half.stamp) odd.half_is) in
      let fits : h.odd.stamp < 2 ^ 32 =
      subst Fits stamp_is (accepted_fits w items (Half odd.stamp odd.sat odd.signal odd.bits) odd.stamp fit odd.accepted refl) in
      let events = of_word (reading_of (word_of h.even.half h.odd.half) h.odd.sat h.odd.stamp) in
      of_word_part Fits Value laws (word_of h.even.half h.odd.half) h.odd.sat h.odd.stamp part fits (in_from_contains events (Received part) h.is)

  pub heard_value : IsPartReceived w items part → IsPartValue part
  heard_value h =
      ⊎_elim
      (λ (one : IsOfSubframe w items part). subframe_value one)
      (λ (rest : IsOfFrame w items part ⊎ IsOfWord w items part).
      ⊎_elim (λ (one : IsOfFrame w items part). frame_value one) (λ (one : IsOfWord w items part). word_value one) rest)
      h
