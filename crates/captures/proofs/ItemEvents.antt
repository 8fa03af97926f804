-- The events of an item and what is known after it, where it is late and where it is not.
use Rattle.std.proofs.Common.{◌≡◌, ℕ, ◌+◌, ◌≤◌, max, Bool, true, false, nat_lt, if◌then◌else◌, List, [], ◌∷◌, Option, Some, IfSome, IfNone, Result, Ok, Err, OnOk, refl, sym, subst, ◌∙◌, arith}
use Rattle.std.specs.Prelude.{unwrap_or}
use Rattle.std.proofs.lemmas.Bool.{both_ways, cond-true, cond-false, ltb-false}
use Rattle.nav_eph.specs.Satellite.{Satellite}
use Rattle.nav_eph.specs.declared.signal.Signal.{Signal}
use Rattle.inav.specs.Received.{StampedHalf}
use Rattle.inav.specs.Keeping.{Keeping}
use Rattle.lnav_subframe.specs.Reading.{subframe_of}
use Rattle.capture_lines.specs.Late.{stamp_of}
use Rattle.capture_lines.specs.declared.item.LineItem.{LineItem}
use Rattle.capture_lines.specs.declared.item.LineItem.TheVariants.{Pass, Lnav, Half, Frame, Malformed as MalformedItem}
use Rattle.capture_log.specs.Events.{Known, events_of, half_of, halves_with, is_alert, is_late, known_with, of_frame, of_half, of_subframe, with_half}
use Rattle.capture_log.specs.declared.event.Event.TheVariants.{Late, Malformed}
use Rattle.captures.specs.Notes.{KeepsHalves, TookHalf}
use Rattle.captures.proofs.Keeping.{keeps_more}

-- ---- an item that is late

-- an item with this stamp is late
abbrev pub Behind : Option ℕ → ℕ → ℕ → Bool → Type 0
Behind stamp window greatest behind = IfSome stamp (λ s. behind ≡ nat_lt (s + window) greatest) × IfNone stamp (behind ≡ false)

pub behind_item : (stamp own : Option ℕ) (window greatest known : ℕ) (behind : Bool) → stamp ≡ own → greatest ≡ known
    → IfSome stamp (λ s. behind ≡ nat_lt (s + window) greatest) → IfNone stamp (behind ≡ false) → Behind own window known behind
behind_item stamp own window greatest known behind e f some none =
    subst (λ (o : Option ℕ). Behind o window known behind) e (subst (λ (n : ℕ). Behind stamp window n behind) f (some, none))

pub late_events : (window : ℕ) (known : Known) (item : LineItem) (behind : Bool) → Behind (stamp_of item) window known.greatest behind → behind ≡ true
    → Late ∷ [] ≡ events_of window known item
unfolding events_of
late_events window known Pass behind h late = absurd (both_ways behind h.1 late)
late_events window known MalformedItem behind h late = absurd (both_ways behind h.1 late)
late_events window known (Lnav stamp sat bits) behind h late =
    sym (cond-true (is_late window known stamp) (Late ∷ []) (of_subframe (subframe_of bits sat stamp) ∷ []) (sym h.0 ∙ late))
late_events window known (Half stamp sat signal bits) behind h late =
    sym (cond-true (is_late window known stamp) (Late ∷ []) (of_half known.halves stamp sat signal bits) (sym h.0 ∙ late))
late_events window known (Frame stamp bytes) behind h late =
    sym (cond-true (is_late window known stamp) (Late ∷ []) (of_frame stamp bytes.items) (sym h.0 ∙ late))

pub late_halves : (window : ℕ) (known : Known) (item : LineItem) (behind : Bool) → Behind (stamp_of item) window known.greatest behind → behind ≡ true
    → halves_with window known item ≡ known.halves
late_halves window known Pass behind h late = refl
late_halves window known MalformedItem behind h late = refl
late_halves window known (Lnav stamp sat bits) behind h late = refl
late_halves window known (Half stamp sat signal bits) behind h late =
    cond-true (is_late window known stamp) known.halves
    (if is_alert bits then known.halves else with_half known.halves (half_of stamp sat signal bits)) (sym h.0 ∙ late)
late_halves window known (Frame stamp bytes) behind h late = refl

-- what is kept where no page part comes
pub keeps_item : (keeping : Keeping) (window : ℕ) (known : Known) (item : LineItem) → halves_with window known item ≡ known.halves
    → KeepsHalves keeping window known → KeepsHalves keeping window (known_with window known item)
unfolding known_with
keeps_item keeping window known item same keeps =
    let greatest = max known.greatest (unwrap_or (stamp_of item) 0) in
    subst (λ (hs : List StampedHalf). KeepsHalves keeping window (record { greatest = greatest; halves = hs })) (sym same)
    (keeps_more keeping window known greatest (omega arith) keeps)

-- ---- an item that is not

-- the test of its stamp
pub in_time : (stamp : Option ℕ) (s window greatest : ℕ) (behind : Bool) → stamp ≡ Some s → IfSome stamp (λ s. behind ≡ nat_lt (s + window) greatest) → behind ≡ false
    → nat_lt (s + window) greatest ≡ false
in_time stamp s window greatest behind is h timely =
    let test : behind ≡ nat_lt (s + window) greatest = subst (λ (o : Option ℕ). IfSome o (λ s. behind ≡ nat_lt (s + window) greatest)) is h in
    sym test ∙ timely

pub not_behind : (s window greatest : ℕ) → nat_lt (s + window) greatest ≡ false → greatest ≤ s + window
not_behind s window greatest timely = ltb-false (s + window) greatest timely

pub pass_events : (window : ℕ) (known : Known) → [] ≡ events_of window known Pass
unfolding events_of
pass_events window known = refl

pub malformed_events : (window : ℕ) (known : Known) → Malformed ∷ [] ≡ events_of window known MalformedItem
unfolding events_of
malformed_events window known = refl

pub lnav_events : (window : ℕ) (known : Known) (stamp : ℕ) (sat : Satellite) (bits : List ℕ) → is_late window known stamp ≡ false
    → of_subframe (subframe_of bits sat stamp) ∷ [] ≡ events_of window known (Lnav stamp sat bits)
unfolding events_of
lnav_events window known stamp sat bits timely =
    sym (cond-false (is_late window known stamp) (Late ∷ []) (of_subframe (subframe_of bits sat stamp) ∷ []) timely)

pub page_events : (window : ℕ) (known : Known) (stamp : ℕ) (sat : Satellite) (signal : Signal) (bits : List ℕ) → is_late window known stamp ≡ false
    → of_half known.halves stamp sat signal bits ≡ events_of window known (Half stamp sat signal bits)
unfolding events_of
page_events window known stamp sat signal bits timely =
    sym (cond-false (is_late window known stamp) (Late ∷ []) (of_half known.halves stamp sat signal bits) timely)

pub frame_events : (window : ℕ) (known : Known) (stamp : ℕ) (bytes : List ℕ) → is_late window known stamp ≡ false
    → of_frame stamp bytes ≡ events_of window known (Frame stamp (record { items = bytes }))
unfolding events_of
frame_events window known stamp bytes timely = sym (cond-false (is_late window known stamp) (Late ∷ []) (of_frame stamp bytes) timely)

pub keeps_half : (keeping : Keeping) (window : ℕ) (known : Known) (stamp : ℕ) (sat : Satellite) (signal : Signal) (bits : List ℕ) → is_late window known stamp ≡ false
    → TookHalf keeping window known stamp sat signal bits → KeepsHalves keeping window (known_with window known (Half stamp sat signal bits))
unfolding known_with
keeps_half keeping window known stamp sat signal bits timely took =
    subst (λ (hs : List StampedHalf). KeepsHalves keeping window (record { greatest = max known.greatest stamp; halves = hs }))
    (sym (cond-false (is_late window known stamp) known.halves
    (if is_alert bits then known.halves else with_half known.halves (half_of stamp sat signal bits)) timely))
    took

-- what is so after a call that is done, and what follows from it
pub always : {T E : Type 0} (r : Result T E) (P : Type 0) → P → OnOk r P
always (Ok x) P p = p
always (Err e) P p = tt

pub after_call : {T E : Type 0} (r : Result T E) (P Q : Type 0) → (P → Q) → OnOk r P → OnOk r Q
after_call (Ok x) P Q f p = f p
after_call (Err e) P Q f p = tt
