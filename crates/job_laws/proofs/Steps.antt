-- One item more: its events alone, and the pairs that its page part completes.
use Rattle.std.proofs.Common.{◌≡◌, ℕ, ◌+◌, inl, true, false, if◌then◌else◌, List, [], ◌∷◌, ◌++◌, map, Contains, refl}
use Rattle.std.proofs.Common.{sym, ap, subst, ◌∙◌, arith}
use Rattle.std.specs.Prelude.{Bool, nat_lt}
use Rattle.std.proofs.lemmas.Bool.{both_ways}
use Rattle.nav_eph.specs.Satellite.{Satellite}
use Rattle.nav_eph.specs.declared.signal.Signal.{Signal}
use Rattle.inav.specs.Received.{StampedHalf, has_half, words_of, word_with}
use Rattle.capture_lines.specs.Late.{IsLate, greatest_stamp}
use Rattle.capture_lines.specs.declared.item.LineItem.{LineItem}
use Rattle.capture_lines.specs.declared.item.LineItem.TheVariants.{Pass, Lnav, Half, Frame, Malformed as MalformedItem}
use Rattle.lnav_subframe.specs.Reading.{subframe_of}
use Rattle.capture_log.specs.Events.{Known, events_of, half_of, is_alert, is_late, of_frame, of_subframe, of_words}
use Rattle.capture_log.specs.Received.{IsHalfReceived}
use Rattle.capture_log.specs.declared.event.Event.{Event}
use Rattle.capture_log.specs.declared.event.Event.TheVariants.{Late, Unused}
use Rattle.capture_log.proofs.Surface.{In, in_from_contains, contains_from_in}
use Rattle.capture_log.proofs.Surface.{IsNewHalf, of_half_item}
use Rattle.capture_log.proofs.Surface.{HalfLaws, Knows, half_heard, late_to}
use Rattle.job_laws.specs.Counted.{ArePairsReceived, Pair, own_events, pairs_weight, weight_of}
use Rattle.job_laws.proofs.Partners.{taken_weight}
use Rattle.job_laws.proofs.PairLists.{new_pairs, pairs_more, pairs_stay}

-- the pairs received with the item, and what it yields
pub record IsStep (w : ℕ) (items : List LineItem) (known : Known) (item : LineItem) (pairs : List Pair) : Type 0 where
  pub more : List Pair
  pub are : ArePairsReceived w (items ++ item ∷ []) (more ++ pairs)
  pub weighs : (kind : Event → ℕ) → weight_of kind (events_of w known item)
      ≡ weight_of kind (own_events w items item) + pairs_weight kind more

-- it yields what it yields by itself, and no pair is new
quiet : (w : ℕ) (items : List LineItem) (known : Known) (item : LineItem) (pairs : List Pair) → ArePairsReceived w items pairs
    → ((half : StampedHalf) → IsNewHalf w items item half → IsHalfReceived w items half)
    → events_of w known item ≡ own_events w items item → IsStep w items known item pairs
quiet w items known item pairs are none same = record {
  more = [];
  are = pairs_stay w items item pairs none are;
  weighs = λ kind. ap (weight_of kind) same ∙ omega arith;
}

-- ---- the events of a page part, by what is known of it

abbrev events_by : Bool → Bool → Bool → StampedHalf → List (List ℕ) → List Event
events_by late alert there own words =
    if late then Late ∷ [] else (if alert then Unused ∷ [] else of_words own (if there then [] else words))

abbrev by_itself : Bool → Bool → List Event
by_itself late alert = if late then Late ∷ [] else (if alert then Unused ∷ [] else [])

no_members : {X : Type 0} (xs : List X) → ((x : X) → In xs x → ⊥) → xs ≡ []
no_members [] none = refl
no_members (x ∷ xs) none = absurd (none x (inl refl))

-- a page part without a partner makes no word
no_words : (laws : HalfLaws) (own : StampedHalf) → words_of [] own ≡ []
no_words laws own =
    let are = laws.words [] own in
    are.words_are
    ∙ ap (map (word_with own)) (no_members are.partners
    (λ x h. in_from_contains [] x ((are.each x).0 (contains_from_in are.partners x h)).0))

nothing_there : (late alert there : Bool) (own : StampedHalf) → events_by late alert there own [] ≡ by_itself late alert
nothing_there late alert true own = refl
nothing_there late alert false own = refl

module _ (laws : HalfLaws) (w : ℕ) (items : List LineItem) (known : Known) (knows : Knows w items known) (pairs : List Pair)
    (are : ArePairsReceived w items pairs) where
  -- whether a stamp is late, by what is known or by the items
  by_items : (stamp : ℕ) (events : List Event)
      → (if is_late w known stamp then Late ∷ [] else events)
      ≡ (if is_late w (record { greatest = greatest_stamp items; halves = [] }) stamp then Late ∷ [] else events)
  by_items stamp events = λ i. if nat_lt (stamp + w) (knows.greatest i) then Late ∷ [] else events

  module _ (stamp : ℕ) (sat : Satellite) (signal : Signal) (bits : List ℕ) where
    abbrev item : LineItem
    item = Half stamp sat signal bits

    abbrev own : StampedHalf
    own = half_of stamp sat signal bits

    abbrev yielded : Bool → Bool → Bool → List Event
    yielded late alert there = events_by late alert there own (words_of known.halves own)

    half_events : (late alert there : Bool) → is_late w known stamp ≡ late → is_alert bits ≡ alert
        → has_half known.halves own ≡ there
        → events_of w known item ≡ yielded late alert there
    unfolding events_of
    half_events late alert there l a t = λ i. yielded (l i) (a i) (t i)

    half_itself : (late alert : Bool) → is_late w known stamp ≡ late → is_alert bits ≡ alert
        → own_events w items item ≡ by_itself late alert
    unfolding events_of
    half_itself late alert l a =
        (λ i. events_by (nat_lt (stamp + w) (sym knows.greatest i)) (is_alert bits) (has_half [] own) own (no_words laws own i))
        ∙ nothing_there (is_late w known stamp) (is_alert bits) (has_half [] own) own
        ∙ (λ i. by_itself (l i) (a i))

    half_by : (late alert there : Bool) → is_late w known stamp ≡ late → is_alert bits ≡ alert → has_half known.halves own ≡ there
        → IsStep w items known item pairs
    half_by true alert there l a t =
        quiet w items known item pairs are
        (λ half new. absurd (new.in_time (subst (IsLate w items) (of_half_item (λ s x y z. s) _ _ _ _ _ _ _ _ new.is)
        (late_to laws w items known knows.greatest stamp l))))
        (half_events true alert there l a t ∙ sym (half_itself true alert l a))
    half_by false true there l a t =
        quiet w items known item pairs are
        (λ half new. absurd (both_ways (is_alert bits)
        (ap is_alert (of_half_item (λ s x y z. z) _ _ _ _ _ _ _ _ new.is) ∙ new.nominal) a))
        (half_events false true there l a t ∙ sym (half_itself false true l a))
    half_by false false true l a t =
        quiet w items known item pairs are
        (λ half new. subst (IsHalfReceived w items) (of_half_item half_of _ _ _ _ _ _ _ _ new.is ∙ sym new.half_is)
        (knows.halves_to own ((laws.among known.halves own).0 t)))
        (half_events false false true l a t ∙ sym (half_itself false false l a))
    half_by false false false l a t =
        let words = laws.words known.halves own in
        let heard = half_heard laws w items known knows stamp sat signal bits l a in
        let one : (half : StampedHalf) → IsNewHalf w items item half → own ≡ half =
        λ half new. of_half_item half_of _ _ _ _ _ _ _ _ new.is ∙ sym new.half_is in
        record {
          more = new_pairs laws w items item known knows own heard t one;
          are = pairs_more laws w items item known knows own heard t one pairs are;
          weighs = λ kind.
              let whole = ap (weight_of kind) (half_events false false false l a t)
              ∙ taken_weight kind (Contains known.halves) own (words_of known.halves own) words
              (λ x h. ((words.each x).0 (contains_from_in words.partners x h)).1) in
              let itself : weight_of kind (own_events w items item) ≡ 0 = ap (weight_of kind) (half_itself false false l a) in
              whole ∙ omega arith;
        }

  no_half : (line : LineItem) → ((stamp : ℕ) (sat : Satellite) (signal : Signal) (bits : List ℕ)
      → line ≡ Half stamp sat signal bits → ⊥)
      → (half : StampedHalf) → IsNewHalf w items line half → IsHalfReceived w items half
  no_half line other half new = absurd (other new.stamp new.sat new.signal new.bits new.is)

  pub step : (item : LineItem) → IsStep w items known item pairs
  unfolding events_of
  step Pass = quiet w items known Pass pairs are (no_half Pass (λ s x y z e. cc)) refl
  step MalformedItem = quiet w items known MalformedItem pairs are (no_half MalformedItem (λ s x y z e. cc)) refl
  step (Lnav stamp sat bits) =
      quiet w items known (Lnav stamp sat bits) pairs are (no_half (Lnav stamp sat bits) (λ s x y z e. cc))
      (by_items stamp (of_subframe (subframe_of bits sat stamp) ∷ []))
  step (Frame stamp bytes) =
      quiet w items known (Frame stamp bytes) pairs are (no_half (Frame stamp bytes) (λ s x y z e. cc))
      (by_items stamp (of_frame stamp bytes.items))
  step (Half stamp sat signal bits) =
      half_by stamp sat signal bits (is_late w known stamp) (is_alert bits)
      (has_half known.halves (half_of stamp sat signal bits)) refl refl refl
