-- Events after events, as an ear hears them.
use Rattle.std.proofs.Common.{◌≡◌, ℕ, ◌+◌, ◌≤◌, List, [], ◌∷◌, ◌++◌, length, take, Option, Some, None, Result, Ok, Err, refl, sym, ap, subst, ◌∙◌, arith}
use Rattle.std.proofs.lemmas.Bool.{cond_both}
use Rattle.std.proofs.lemmas.List.{length-take}
use Rattle.nav_eph.specs.Satellite.{Satellite}
use Rattle.nav_eph.specs.declared.part.Part.{Part}
use Rattle.inav.specs.Reading.{reading_of}
use Rattle.inav.specs.declared.word_fault.WordFault.{WordFault}
use Rattle.inav.specs.declared.parts.WordParts.{WordParts}
use Rattle.slot_assembly.specs.Standing.{Stood, adding}
use Rattle.framing.specs.State.{payload_of}
use Rattle.rtcm_eph.specs.Reading.{content_of, parts_of}
use Rattle.rtcm_eph.specs.declared.read.MessageParts.{MessageParts}
use Rattle.rtcm_eph.specs.declared.read.MessageParts.TheVariants.{Gps as GpsParts, Gal as GalParts}
use Rattle.rtcm_eph.specs.declared.fault.MessageFault.{MessageFault}
use Rattle.slot_assembly.specs.SlotStanding.{SlotsStandFor}
use Rattle.capture_log.specs.Events.{is_frame, of_frame, of_message, of_message_fault, of_second, of_word, of_word_fault}
use Rattle.capture_log.specs.declared.event.EventFault.TheVariants as refusals
use Rattle.capture_log.specs.Log.{Noted, noted, parts_in}
use Rattle.capture_log.specs.declared.event.Event.{Event}
use Rattle.capture_log.specs.declared.event.Event.TheVariants.{Received as ReceivedPart, Malformed, Late, Refused, Unused}
use Rattle.captures.specs.declared.counts.EventCounts.{EventCounts}
use Rattle.captures.specs.declared.receiver.PartReceiver.{PartReceiver}
use Rattle.one_run.specs.declared.fault.BridgeFault.{BridgeFault}
use Rattle.one_run.specs.declared.fault.BridgeFault.TheVariants.{ReadFault, WriteFault, ReportFault, TooLong, NoMemory, NotThisForm}
use Rattle.captures.specs.Reports.{count_in, is_late, is_malformed, is_refused_event, is_unused}
use Rattle.captures.specs.Notes.{AreFrom, of_received, tallied, total, weight, weights}
use Rattle.captures.specs.Hearings.{Received, Receives, IsOpenAt, IsOpenFor, Unreceived}
use Rattle.captures.proofs.Weighing.{weights-append}
use Rattle.captures.proofs.Noting.{count_in-append, prefix_longer, prefix_more, notes_more, notes_none}

-- ---- logs after logs

pub hears_none : (receiver : PartReceiver) (w : Option (List ℕ)) → Receives receiver receiver w w []
hears_none receiver w = record { reference = refl; window = refl; notes = notes_none (SlotsStandFor receiver.assembly) w receiver.tally }

pub hears_more : (a b c : PartReceiver) (u v w : Option (List ℕ)) (xs ys : List Noted) → Receives a b u v xs → Receives b c v w ys → Receives a c u w (xs ++ ys)
hears_more a b c u v w xs ys first second = record {
  reference = second.reference ∙ first.reference;
  window = second.window ∙ first.window;
  notes = notes_more (SlotsStandFor a.assembly) (SlotsStandFor b.assembly) (SlotsStandFor c.assembly) u v w a.tally b.tally c.tally xs ys first.notes second.notes;
}

-- events that were processed, and then a prefix of the report of the next
pub unheard_more : (a b : PartReceiver) (u v w : Option (List ℕ)) (before now : ℕ) (xs ys : List Noted) (fault : BridgeFault) → Receives a b u v xs → Unreceived v w before now ys fault
    → Unreceived u w before now (xs ++ ys) fault
unheard_more a b u v w before now xs ys ReportFault first h = (prefix_more u v w xs ys first.notes.text h.0, h.1)
unheard_more a b u v w before now xs ys NoMemory first h = (prefix_more u v w xs ys first.notes.text h.0, h.1)
unheard_more a b u v w before now xs ys ReadFault first h = h
unheard_more a b u v w before now xs ys WriteFault first h = h
unheard_more a b u v w before now xs ys TooLong first h = h
unheard_more a b u v w before now xs ys NotThisForm first h = h

pub unheard_longer : (u w : Option (List ℕ)) (before now : ℕ) (xs ys : List Noted) (fault : BridgeFault) → Unreceived u w before now xs fault → Unreceived u w before now (xs ++ ys) fault
unheard_longer u w before now xs ys ReportFault h = (prefix_longer u w xs ys h.0, h.1)
unheard_longer u w before now xs ys NoMemory h = (prefix_longer u w xs ys h.0, h.1)
unheard_longer u w before now xs ys ReadFault h = h
unheard_longer u w before now xs ys WriteFault h = h
unheard_longer u w before now xs ys TooLong h = h
unheard_longer u w before now xs ys NotThisForm h = h

-- a report that broke off: it continues what was reported, and is a prefix of what would have been
pub unheard_within : (a b : PartReceiver) (u v w : Option (List ℕ)) (before middle now : ℕ) (xs ys zs all : List Noted) (fault : BridgeFault)
    → all ≡ (xs ++ ys) ++ zs → Receives a b u v xs → middle ≡ before → Unreceived v w middle now ys fault → Unreceived u w before now all fault
unheard_within a b u v w before middle now xs ys zs all fault split first same h =
    subst (λ (l : List Noted). Unreceived u w before now l fault) (sym split)
    (unheard_longer u w before now (xs ++ ys) zs fault (unheard_more a b u v w before now xs ys fault first (subst (λ (n : ℕ). Unreceived v w n now ys fault) same h)))

-- the same log in other words
pub heard_as : {T : Type 0} (old new : PartReceiver) (v w : Option (List ℕ)) (before now : ℕ) (xs ys : List Noted) (result : Result T BridgeFault) → xs ≡ ys
    → Received old new v w before now xs result → Received old new v w before now ys result
heard_as old new v w before now xs ys result e h = rw (sym e) h

-- ---- adding parts does not change the watermark

pub open_after : (a b : PartReceiver) (u v : Option (List ℕ)) (log : List Noted) (P : ℕ → Type 0) → Receives a b u v log → Stood (SlotsStandFor a.assembly) (λ at. P at.watermark)
    → Stood (SlotsStandFor b.assembly) (λ at. P at.watermark)
open_after a b u v log P h s = (adding (parts_in log) s.0, h.notes.parts s.0 s.1, s.2)

-- where the watermark is not above the stamp of the parts, it is open for them
pub open_for : (receiver : PartReceiver) (stamp : ℕ) (events : List Event) → IsOpenAt receiver stamp → ((least : ℕ) → least ≤ stamp → AreFrom least events) → IsOpenFor receiver events
open_for receiver stamp events s from = (s.0, s.1, from s.0.watermark s.2)

-- ---- how much was counted

count_more : (kind : Event → ℕ) (number : ℕ) (event : Event) (events : List Event) → count_in kind (noted number (event ∷ events)) ≡ kind event + count_in kind (noted number events)
count_more kind number event events =
    let first : Noted = record { line = number; event = event } in
    let rest = count_in kind (noted number events) in
    let same : (0 + kind event) + rest ≡ kind event + rest = omega arith in
    count_in-append kind (first ∷ []) (noted number events) ∙ same

one_kind : (event : Event) → is_malformed event + is_late event + is_refused_event event + is_unused event ≡ weight event
one_kind (ReceivedPart part) = omega arith
one_kind Malformed = omega arith
one_kind Late = omega arith
one_kind (Refused refusal) = omega arith
one_kind Unused = omega arith

total_tallied : (t : EventCounts) (number : ℕ) (events : List Event) → total (tallied t (noted number events)) ≡ total t + weights events
total_tallied t number [] = omega arith
total_tallied t number (e ∷ es) =
    omega (arith, total_tallied t number es, one_kind e, count_more is_malformed number e es, count_more is_late number e es, count_more is_refused_event number e es, count_more is_unused number e es)

pub total_heard : (a b : PartReceiver) (u v : Option (List ℕ)) (number : ℕ) (events : List Event) → Receives a b u v (noted number events) → total b.tally ≡ total a.tally + weights events
total_heard a b u v number events h = ap total h.notes.counts ∙ total_tallied a.tally number events

pub weight_one : (event : Event) → weight event ≤ 1
weight_one (ReceivedPart part) = omega arith
weight_one Malformed = omega arith
weight_one Late = omega arith
weight_one (Refused refusal) = omega arith
weight_one Unused = omega arith

pub weights_single : (event : Event) → weights (event ∷ []) ≤ 1
weights_single event = omega (arith, weight_one event)

second_free : (second : Option Part) → weights (of_second second) ≡ 0
second_free None = omega arith
second_free (Some part) = omega arith

pub weights_word : (answer : Result WordParts WordFault) → weights (of_word answer) ≤ 1
weights_word (Ok parts) = omega (arith, second_free parts.second)
weights_word (Err fault) = omega (arith, weight_one (of_word_fault fault))

pub weights_heard : (sat : Satellite) (stamp : ℕ) (words : List (List ℕ)) → weights (of_received sat stamp words) ≤ length words
weights_heard sat stamp [] = omega arith
weights_heard sat stamp (word ∷ words) =
    omega (arith, weights-append (of_word (reading_of word sat stamp)) (of_received sat stamp words), weights_word (reading_of word sat stamp), weights_heard sat stamp words)

pub weights_some : (sat : Satellite) (stamp i : ℕ) (words : List (List ℕ)) → weights (of_received sat stamp (take i words)) ≤ i
weights_some sat stamp i words = omega (arith, weights_heard sat stamp (take i words), length-take i words)

weights_message : (answer : Result MessageParts MessageFault) → weights (of_message answer) ≤ 1
weights_message (Ok (GpsParts clock a b)) = omega arith
weights_message (Ok (GalParts w1 w2 w3 w4 health)) = omega arith
weights_message (Err fault) = omega (arith, weight_one (of_message_fault fault))

pub weights_frame : (stamp : ℕ) (bytes : List ℕ) → weights (of_frame stamp bytes) ≤ 1
unfolding of_frame
weights_frame stamp bytes =
    cond_both (is_frame bytes) (of_message (parts_of stamp (content_of (payload_of bytes)))) (Refused refusals.Frame ∷ []) (λ (es : List Event). weights es ≤ 1)
    (λ whole. weights_message (parts_of stamp (content_of (payload_of bytes)))) (λ broken. omega arith)
