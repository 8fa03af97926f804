-- What the bytes of a frame yield.
use Rattle.std.proofs.Common.{◌≡◌, ℕ, ◌<◌, ◌≤◌, true, false, nat_lt, nat_eq, List, [], ◌∷◌, length, map, All, Result, sym, ap, ◌∙◌, arith}
use Rattle.std.proofs.lemmas.Bool.{and_from, and_parts, cond-true, cond-false, eq-eqb, eqb-true, false_from_ne_true, lt-ltb, ltb-true}
use Rattle.std.proofs.lemmas.List.Elements.{All-head, All-tail}
use Rattle.nav_eph.specs.declared.part.Part.{Part}
use Rattle.framing.specs.Frames.{frame_size}
use Rattle.framing.specs.State.{payload_of}
use Rattle.rtcm_eph.specs.Reading.{content_of, parts_of}
use Rattle.rtcm_eph.specs.declared.fault.MessageFault.{MessageFault}
use Rattle.rtcm_eph.specs.declared.read.MessageParts.{MessageParts}
use Rattle.capture_log.specs.Events.{is_frame, of_frame, of_message}
use Rattle.capture_log.specs.declared.event.Event.TheVariants.{Received, Refused}
use Rattle.capture_log.specs.declared.event.EventFault.TheVariants as refusals
use Rattle.captures.specs.Notes.{AreFrom}

-- the bytes are one whole frame
abbrev pub IsWhole : List ℕ → Type 0
IsWhole bytes = (0 < length bytes) × (frame_size bytes ≡ length bytes)

whole_frame : (bytes : List ℕ) → IsWhole bytes → is_frame bytes ≡ true
whole_frame bytes whole =
    and_from (nat_lt 0 (length bytes)) (nat_eq (frame_size bytes) (length bytes)) (lt-ltb 0 (length bytes) whole.0) (eq-eqb (frame_size bytes) (length bytes) whole.1)

no_frame : (bytes : List ℕ) → (IsWhole bytes → ⊥) → is_frame bytes ≡ false
no_frame bytes never =
    false_from_ne_true (is_frame bytes)
    (λ e. let both = and_parts (nat_lt 0 (length bytes)) (nat_eq (frame_size bytes) (length bytes)) e in
    never (ltb-true 0 (length bytes) both.0, eqb-true (frame_size bytes) (length bytes) both.1))

pub frame_refused : (stamp : ℕ) (bytes : List ℕ) → (IsWhole bytes → ⊥) → Refused refusals.Frame ∷ [] ≡ of_frame stamp bytes
unfolding of_frame
frame_refused stamp bytes never =
    sym (cond-false (is_frame bytes) (of_message (parts_of stamp (content_of (payload_of bytes)))) (Refused refusals.Frame ∷ []) (no_frame bytes never))

pub frame_yields : (stamp : ℕ) (bytes frame payload : List ℕ) (answer : Result MessageParts MessageFault) → IsWhole bytes → frame ≡ bytes → payload ≡ payload_of frame
    → answer ≡ parts_of stamp (content_of payload) → of_message answer ≡ of_frame stamp bytes
unfolding of_frame
frame_yields stamp bytes frame payload answer whole same part read =
    ap of_message read ∙ ap (λ (p : List ℕ). of_message (parts_of stamp (content_of p))) (part ∙ ap payload_of same)
    ∙ sym (cond-true (is_frame bytes) (of_message (parts_of stamp (content_of (payload_of bytes)))) (Refused refusals.Frame ∷ []) (whole_frame bytes whole))

-- parts with a stamp that is not before another stamp
pub heard_from : (least stamp : ℕ) (parts : List Part) → least ≤ stamp → All (λ (part : Part). part.stamp ≡ stamp) parts → AreFrom least (map Received parts)
heard_from least stamp [] later all = tt
heard_from least stamp (p ∷ ps) later all =
    let first : p.stamp ≡ stamp = All-head (λ (part : Part). part.stamp ≡ stamp) p ps all in
    (omega (arith, later, first), heard_from least stamp ps later (All-tail (λ (part : Part). part.stamp ≡ stamp) p ps all))
