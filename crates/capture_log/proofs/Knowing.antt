-- The state after some items, and their events, are what is received in them.
use Rattle.std.proofs.Common.{◌≡◌, ℕ, ◌+◌, ◌<◌, ◌⊎◌, ◌↔◌, max, inl, inr, true, false, if◌then◌else◌}
use Rattle.std.proofs.Common.{List, [], ◌∷◌, ◌++◌, Contains, unwrap_or, refl, sym, ap, subst, ◌∙◌}
use Rattle.std.proofs.Common.{⊎_elim, lt-ltb, ltb-true}
use Rattle.std.proofs.lemmas.Bool.{cond_both, both_ways, false_from_ne_true}
use Rattle.nav_eph.specs.Satellite.{Satellite}
use Rattle.nav_eph.specs.declared.signal.Signal.{Signal}
use Rattle.inav.specs.Received.{StampedHalf, AreWordsWith, has_half, words_of}
use Rattle.capture_lines.specs.Late.{stamp_of, IsLate, greatest_stamp}
use Rattle.capture_lines.specs.declared.item.LineItem.{LineItem}
use Rattle.capture_lines.specs.declared.item.LineItem.TheVariants.{Pass, Lnav, Half, Frame}
use Rattle.capture_lines.specs.declared.item.LineItem.TheVariants.{Malformed as MalformedItem}
use Rattle.capture_log.specs.Events.{Known, half_of, is_alert, is_late, with_half, halves_with}
use Rattle.capture_log.specs.Events.{known_with}
use Rattle.capture_log.specs.Received.{IsHalfReceived}
use Rattle.capture_log.proofs.Lists.{In, in_from_contains, contains_from_in}
use Rattle.capture_log.proofs.Accepting.{greatest_more, still_accepted, last_accepted, half_keeps}
use Rattle.capture_log.proofs.Accepting.{IsNewHalf, half_cases}

-- the laws of page parts and of late lines in the crates below
pub record HalfLaws : Type 0 where
  pub among : (halves : List StampedHalf) (half : StampedHalf)
      → (has_half halves half ≡ true) ↔ Contains halves half
  pub words : (halves : List StampedHalf) (taken : StampedHalf)
      → AreWordsWith (Contains halves) taken (words_of halves taken)
  pub late : (window : ℕ) (before : List LineItem) (stamp : ℕ)
      → IsLate window before stamp ↔ (stamp + window < greatest_stamp before)

-- the state after the items: their greatest stamp, and the received page parts
pub record Knows (w : ℕ) (items : List LineItem) (known : Known) : Type 0 where
  pub greatest : known.greatest ≡ greatest_stamp items
  pub halves_to : (half : StampedHalf) → Contains known.halves half → IsHalfReceived w items half
  pub halves_from : (half : StampedHalf) → IsHalfReceived w items half → Contains known.halves half

-- ---- late or in time

module _ (laws : HalfLaws) (w : ℕ) (items : List LineItem) (known : Known) (greatest : known.greatest ≡ greatest_stamp items) where
  pub late_to : (stamp : ℕ) → is_late w known stamp ≡ true → IsLate w items stamp
  late_to stamp e = (laws.late w items stamp).1 (subst (λ g. stamp + w < g) greatest (ltb-true (stamp + w) known.greatest e))

  pub in_time : (stamp : ℕ) → is_late w known stamp ≡ false → IsLate w items stamp → ⊥
  in_time stamp e late =
      let behind : stamp + w < known.greatest = subst (λ g. stamp + w < g) (sym greatest) ((laws.late w items stamp).0 late) in
      both_ways (is_late w known stamp) e (lt-ltb (stamp + w) known.greatest behind)

  pub not_late : (stamp : ℕ) → (IsLate w items stamp → ⊥) → is_late w known stamp ≡ false
  not_late stamp timely = false_from_ne_true (is_late w known stamp) (λ e. timely (late_to stamp e))

-- ---- the page parts

first_or_rest : (half : StampedHalf) (halves : List StampedHalf) (other : StampedHalf)
    → In (half ∷ halves) other → (half ≡ other) ⊎ Contains halves other
first_or_rest half halves other (inl e) = inl e
first_or_rest half halves other (inr h) = inr (contains_from_in halves other h)

-- in a list with one more page part
put_half_to : (laws : HalfLaws) (halves : List StampedHalf) (half other : StampedHalf)
    → Contains (with_half halves half) other
    → (half ≡ other) ⊎ Contains halves other
put_half_to laws halves half other =
    cond_both (has_half halves half) halves (half ∷ halves) (λ hs. Contains hs other → (half ≡ other) ⊎ Contains halves other)
    (λ there h. inr h)
    (λ not_there h. first_or_rest half halves other (in_from_contains (half ∷ halves) other h))

put_half_old : (halves : List StampedHalf) (half other : StampedHalf) → Contains halves other
    → Contains (with_half halves half) other
put_half_old halves half other h =
    cond_both (has_half halves half) halves (half ∷ halves) (λ hs. Contains hs other) (λ there. h) (λ not_there. contains_from_in (half ∷ halves) other (inr (in_from_contains halves other h)))

put_half_new : (laws : HalfLaws) (halves : List StampedHalf) (half : StampedHalf)
    → Contains (with_half halves half) half
put_half_new laws halves half =
    cond_both (has_half halves half) halves (half ∷ halves) (λ hs. Contains hs half) (λ there. (laws.among halves half).0 there) (λ not_there. contains_from_in (half ∷ halves) half (inl refl))

-- a page part in the state stays there
stays_known : (w : ℕ) (known : Known) (item : LineItem) (half : StampedHalf)
    → Contains known.halves half → Contains (halves_with w known item) half
stays_known w known Pass half h = h
stays_known w known MalformedItem half h = h
stays_known w known (Lnav stamp sat bits) half h = h
stays_known w known (Frame stamp bytes) half h = h
stays_known w known (Half stamp sat signal bits) half h =
    let own = half_of stamp sat signal bits in
    let more = with_half known.halves own in
    cond_both (is_late w known stamp) known.halves (if is_alert bits then known.halves else more) (λ hs. Contains hs half)
    (λ late. h)
    (λ timely. cond_both (is_alert bits) known.halves more (λ hs. Contains hs half)
    (λ alert. h)
    (λ nominal. put_half_old known.halves own half h))

-- a received page part of the item is in the state after it
gets_known : (laws : HalfLaws) (w : ℕ) (known : Known) (stamp : ℕ) (sat : Satellite) (signal : Signal) (bits : List ℕ)
    → is_late w known stamp ≡ false → is_alert bits ≡ false
    → Contains (halves_with w known (Half stamp sat signal bits)) (half_of stamp sat signal bits)
gets_known laws w known stamp sat signal bits timely nominal =
    let own = half_of stamp sat signal bits in
    let more = with_half known.halves own in
    cond_both (is_late w known stamp) known.halves (if is_alert bits then known.halves else more) (λ hs. Contains hs own)
    (λ late. absurd (both_ways (is_late w known stamp) timely late))
    (λ t. cond_both (is_alert bits) known.halves more (λ hs. Contains hs own)
    (λ alert. absurd (both_ways (is_alert bits) nominal alert))
    (λ n. put_half_new laws known.halves own))

module _ (laws : HalfLaws) (w : ℕ) (items : List LineItem) (known : Known) (knows : Knows w items known) where
  still : (item : LineItem) (half : StampedHalf) → Contains known.halves half
      → IsHalfReceived w (items ++ item ∷ []) half
  still item half h = half_keeps w items (items ++ item ∷ []) (still_accepted w items item) half (knows.halves_to half h)

  -- the page part of an item in time is received, unless an alert
  pub half_heard : (stamp : ℕ) (sat : Satellite) (signal : Signal) (bits : List ℕ)
      → is_late w known stamp ≡ false → is_alert bits ≡ false
      → IsHalfReceived w (items ++ Half stamp sat signal bits ∷ []) (half_of stamp sat signal bits)
  half_heard stamp sat signal bits timely nominal = record {
    stamp = stamp;
    sat = sat;
    signal = signal;
    bits = bits;
    accepted = last_accepted w items (Half stamp sat signal bits) stamp refl (in_time laws w items known knows.greatest stamp timely);
    nominal = nominal;
    half_is = refl;
  }

  halves_known : (item : LineItem) (half : StampedHalf) → Contains (halves_with w known item) half
      → IsHalfReceived w (items ++ item ∷ []) half
  halves_known Pass half h = still Pass half h
  halves_known MalformedItem half h = still MalformedItem half h
  halves_known (Lnav stamp sat bits) half h = still (Lnav stamp sat bits) half h
  halves_known (Frame stamp bytes) half h = still (Frame stamp bytes) half h
  halves_known (Half stamp sat signal bits) half h =
      let item = Half stamp sat signal bits in
      let own = half_of stamp sat signal bits in
      let Is : List StampedHalf → Type 0 = λ hs. Contains hs half → IsHalfReceived w (items ++ item ∷ []) half in
      let more = with_half known.halves own in
      cond_both (is_late w known stamp) known.halves (if is_alert bits then known.halves else more) Is
      (λ late k. still item half k)
      (λ timely. cond_both (is_alert bits) known.halves more Is
      (λ alert k. still item half k)
      (λ nominal k.
      ⊎_elim
      (λ (new : own ≡ half). subst (IsHalfReceived w (items ++ item ∷ [])) new (half_heard stamp sat signal bits timely nominal))
      (λ (old : Contains known.halves half). still item half old)
      (put_half_to laws known.halves own half k)))
      h

  -- a page part of the item is in the state after it
  new_known : (item : LineItem) (half : StampedHalf) → IsNewHalf w items item half
      → Contains (halves_with w known item) half
  new_known item half h =
      let own = half_of h.stamp h.sat h.signal h.bits in
      let there : Contains (halves_with w known item) own =
      subst (λ i. Contains (halves_with w known i) own) (sym h.is)
      (gets_known laws w known h.stamp h.sat h.signal h.bits (not_late laws w items known knows.greatest h.stamp h.in_time) h.nominal) in
      subst (Contains (halves_with w known item)) (sym h.half_is) there

  known_halves : (item : LineItem) (half : StampedHalf) → IsHalfReceived w (items ++ item ∷ []) half
      → Contains (halves_with w known item) half
  known_halves item half h =
      ⊎_elim
      (λ (was : IsHalfReceived w items half). stays_known w known item half (knows.halves_from half was))
      (λ (new : IsNewHalf w items item half). new_known item half new)
      (half_cases w items item half h)

  -- one more item
  pub knows_more : (item : LineItem) → Knows w (items ++ item ∷ []) (known_with w known item)
  unfolding known_with
  knows_more item = record {
    greatest = ap (λ g. max g (unwrap_or (stamp_of item) 0)) knows.greatest ∙ sym (greatest_more items item);
    halves_to = halves_known item;
    halves_from = known_halves item;
  }
