-- The events of one more item are what is received with it and was not before.
use Rattle.std.proofs.Common.{◌≡◌, ℕ, ◌⊎◌, inl, inr, true, false, if◌then◌else◌, List, [], ◌∷◌}
use Rattle.std.proofs.Common.{◌++◌, Contains, Some, refl, sym, ap, subst, ◌∙◌, ⊎_elim}
use Rattle.std.proofs.lemmas.Bool.{cond_both, both_ways}
use Rattle.nav_eph.specs.Satellite.{Satellite}
use Rattle.nav_eph.specs.declared.part.Part.{Part}
use Rattle.nav_eph.specs.declared.signal.Signal.{Signal}
use Rattle.inav.specs.Received.{StampedHalf, IsReceived, IsReceivedWith, has_half, words_of}
use Rattle.inav.specs.Pages.{word_of}
use Rattle.inav.proofs.Surface.{still_heard, heard_with_one_more}
use Rattle.inav.specs.Reading.{reading_of}
use Rattle.capture_lines.specs.Late.{stamp_of, IsLate}
use Rattle.capture_lines.specs.declared.item.LineItem.{LineItem}
use Rattle.capture_lines.specs.declared.item.LineItem.TheVariants.{Pass, Lnav, Half, Frame}
use Rattle.capture_lines.specs.declared.item.LineItem.TheVariants.{Malformed as MalformedItem}
use Rattle.lnav_subframe.specs.Reading.{subframe_of}
use Rattle.capture_log.specs.declared.event.Event.{Event}
use Rattle.capture_log.specs.declared.event.Event.TheVariants.{Received, Malformed, Late, Unused}
use Rattle.capture_log.specs.Events.{Known, of_subframe, of_frame, of_word, half_of, is_alert}
use Rattle.capture_log.specs.Events.{is_late, of_half, of_words, new_words, events_of}
use Rattle.capture_log.specs.Received.{IsOfSubframe, IsOfFrame, IsHalfReceived, IsOfWord, IsPartReceived}
use Rattle.capture_log.proofs.Lists.{In, in_from_contains, contains_from_in}
use Rattle.capture_log.proofs.Accepting.{still_accepted, last_accepted, accepted_cases, half_keeps}
use Rattle.capture_log.proofs.Accepting.{IsNewHalf, half_cases, new_half_one}
use Rattle.capture_log.proofs.WordEvents.{words_yield, pair_yields}
use Rattle.capture_log.proofs.Knowing.{HalfLaws, Knows, in_time, not_late, half_heard}

-- the events of a word
abbrev word_events : List ℕ → Satellite → ℕ → List Event
word_events word sat stamp = of_word (reading_of word sat stamp)

none_heard : (event : Event) (part : Part) → (event ≡ Received part → ⊥) → In (event ∷ []) (Received part)
    → ⊥
none_heard event part no_part (inl e) = no_part e
none_heard event part no_part (inr h) = absurd h

no_malformed : (part : Part) → Malformed ≡ Received part → ⊥
no_malformed part e = cc

no_late : (part : Part) → Late ≡ Received part → ⊥
no_late part e = cc

no_unused : (part : Part) → Unused ≡ Received part → ⊥
no_unused part e = cc

only_one : (event : Event) (part : Part) → In (event ∷ []) (Received part) → event ≡ Received part
only_one event part (inl e) = e
only_one event part (inr h) = absurd h

stamp_is : (a b : ℕ) → Some a ≡ Some b → a ≡ b
stamp_is a b e = cc

module _ (laws : HalfLaws) (w : ℕ) (items : List LineItem) (known : Known) (knows : Knows w items known) (part : Part) where
  -- a word of a page part and an earlier one is received
  pair_heard : (item : LineItem) (taken even odd : StampedHalf)
      → IsHalfReceived w (items ++ item ∷ []) taken
      → IsReceivedWith (Contains known.halves) taken even odd
      → IsReceived (IsHalfReceived w (items ++ item ∷ [])) even odd
  pair_heard item taken even odd own h =
      let more = items ++ item ∷ [] in
      let still : (half : StampedHalf) → Contains known.halves half → IsHalfReceived w more half =
      λ half k. half_keeps w items more (still_accepted w items item) half (knows.halves_to half k) in
      ⊎_elim
      (λ (first : (taken ≡ even) × Contains known.halves odd).
      record { even_among = subst (IsHalfReceived w more) first.0 own; odd_among = still odd first.1; make = h.0 })
      (λ (second : Contains known.halves even × (taken ≡ odd)).
      record { even_among = still even second.0; odd_among = subst (IsHalfReceived w more) second.1 own; make = h.0 })
      h.1

  -- the words of a page part give what is received
  words_heard : (item : LineItem) (taken : StampedHalf) → IsHalfReceived w (items ++ item ∷ []) taken
      → In (of_words taken (words_of known.halves taken)) (Received part)
      → IsPartReceived w (items ++ item ∷ []) part
  words_heard item taken own h =
      let pair = words_yield word_events (Contains known.halves) taken (words_of known.halves taken) (Received part)
      (laws.words known.halves taken) h in
      inr (inr (record {
        even = pair.0;
        odd = pair.1;
        heard = pair_heard item taken pair.0 pair.1 own pair.2;
        is = contains_from_in (word_events (word_of pair.0.half pair.1.half) pair.1.sat pair.1.stamp) (Received part) pair.3;
      }))

  -- the item gives what is received with it
  pub yielded_heard : (item : LineItem) → In (events_of w known item) (Received part)
      → IsPartReceived w (items ++ item ∷ []) part
  unfolding events_of
  yielded_heard Pass h = absurd h
  yielded_heard MalformedItem h = absurd (none_heard Malformed part (no_malformed part) h)
  yielded_heard (Lnav stamp sat bits) h =
      let item = Lnav stamp sat bits in
      cond_both (is_late w known stamp) (Late ∷ []) (of_subframe (subframe_of bits sat stamp) ∷ [])
      (λ es. In es (Received part) → IsPartReceived w (items ++ item ∷ []) part)
      (λ late k. absurd (none_heard Late part (no_late part) k))
      (λ timely k. inl (record {
        stamp = stamp;
        sat = sat;
        bits = bits;
        accepted = last_accepted w items item stamp refl (in_time laws w items known knows.greatest stamp timely);
        is = only_one (of_subframe (subframe_of bits sat stamp)) part k;
      }))
      h
  yielded_heard (Frame stamp bytes) h =
      let item = Frame stamp bytes in
      cond_both (is_late w known stamp) (Late ∷ []) (of_frame stamp bytes.items)
      (λ es. In es (Received part) → IsPartReceived w (items ++ item ∷ []) part)
      (λ late k. absurd (none_heard Late part (no_late part) k))
      (λ timely k. inr (inl (record {
        stamp = stamp;
        item = item;
        bytes = bytes.items;
        item_is = refl;
        accepted = last_accepted w items item stamp refl (in_time laws w items known knows.greatest stamp timely);
        is = contains_from_in (of_frame stamp bytes.items) (Received part) k;
      })))
      h
  yielded_heard (Half stamp sat signal bits) h =
      let item = Half stamp sat signal bits in
      let own = half_of stamp sat signal bits in
      let Is : List Event → Type 0 = λ es. In es (Received part) → IsPartReceived w (items ++ item ∷ []) part in
      let words = of_words own (new_words known.halves own) in
      cond_both (is_late w known stamp) (Late ∷ []) (if is_alert bits then Unused ∷ [] else words) Is
      (λ late k. absurd (none_heard Late part (no_late part) k))
      (λ timely. cond_both (is_alert bits) (Unused ∷ []) words Is
      (λ alert k. absurd (none_heard Unused part (no_unused part) k))
      (λ nominal. cond_both (has_half known.halves own) [] (words_of known.halves own)
      (λ ws. In (of_words own ws) (Received part) → IsPartReceived w (items ++ item ∷ []) part)
      (λ there k. absurd k)
      (λ new k. words_heard item own (half_heard laws w items known knows stamp sat signal bits timely nominal) k)))
      h

  -- ---- what is received with it was received before, or it gives it

  in_late : (stamp : ℕ) (events : List Event) → (IsLate w items stamp → ⊥) → In events (Received part)
      → In (if is_late w known stamp then Late ∷ [] else events) (Received part)
  in_late stamp events timely h =
      cond_both (is_late w known stamp) (Late ∷ []) events (λ es. In es (Received part))
      (λ late. absurd (both_ways (is_late w known stamp) (not_late laws w items known knows.greatest stamp timely) late))
      (λ t. h)

  yields_subframe : (stamp : ℕ) (sat : Satellite) (bits : List ℕ) → (IsLate w items stamp → ⊥)
      → of_subframe (subframe_of bits sat stamp) ≡ Received part
      → In (events_of w known (Lnav stamp sat bits)) (Received part)
  unfolding events_of
  yields_subframe stamp sat bits timely e = in_late stamp (of_subframe (subframe_of bits sat stamp) ∷ []) timely (inl e)

  subframe_new : (item : LineItem) → IsOfSubframe w (items ++ item ∷ []) part
      → IsPartReceived w items part ⊎ In (events_of w known item) (Received part)
  subframe_new item h = elim (accepted_cases w items item (Lnav h.stamp h.sat h.bits) h.accepted) [
    | inl was ↦ inl (inl (record { stamp = h.stamp; sat = h.sat; bits = h.bits; accepted = was; is = h.is }))
    | inr new ↦
        let timely : IsLate w items h.stamp → ⊥ =
        λ late. new.in_time (subst (IsLate w items) (stamp_is h.stamp new.stamp new.stamp_is) late) in
        inr (subst (λ i. In (events_of w known i) (Received part)) (sym new.is) (yields_subframe h.stamp h.sat h.bits timely h.is))
  ]

  yields_frame : (stamp : ℕ) (bytes : List ℕ) → (IsLate w items stamp → ⊥)
      → Contains (of_frame stamp bytes) (Received part)
      → In (events_of w known (Frame stamp (record { items = bytes }))) (Received part)
  unfolding events_of
  yields_frame stamp bytes timely h = in_late stamp (of_frame stamp bytes) timely (in_from_contains (of_frame stamp bytes) (Received part) h)

  frame_new : (item : LineItem) → IsOfFrame w (items ++ item ∷ []) part
      → IsPartReceived w items part ⊎ In (events_of w known item) (Received part)
  frame_new item h = elim (accepted_cases w items item h.item h.accepted) [
    | inl was ↦ inl (inr (inl (record { stamp = h.stamp; item = h.item; bytes = h.bytes; item_is = h.item_is; accepted = was; is = h.is })))
    | inr new ↦
        let own : Some h.stamp ≡ Some new.stamp = ap stamp_of (sym h.item_is) ∙ new.stamp_is in
        let timely : IsLate w items h.stamp → ⊥ = λ late. new.in_time (subst (IsLate w items) (stamp_is h.stamp new.stamp own) late) in
        inr (subst (λ i. In (events_of w known i) (Received part)) (sym (new.is ∙ h.item_is)) (yields_frame h.stamp h.bytes timely h.is))
  ]

  -- a new page part gives the words that it completes with earlier ones
  yields_words : (stamp : ℕ) (sat : Satellite) (signal : Signal) (bits : List ℕ)
      → (IsLate w items stamp → ⊥) → is_alert bits ≡ false
      → has_half known.halves (half_of stamp sat signal bits) ≡ false
      → In (of_words (half_of stamp sat signal bits) (words_of known.halves (half_of stamp sat signal bits))) (Received part)
      → In (events_of w known (Half stamp sat signal bits)) (Received part)
  unfolding events_of
  yields_words stamp sat signal bits timely nominal new h =
      let own = half_of stamp sat signal bits in
      let words = of_words own (new_words known.halves own) in
      let Is : List Event → Type 0 = λ es. In es (Received part) in
      in_late stamp (of_half known.halves stamp sat signal bits) timely
      (cond_both (is_alert bits) (Unused ∷ []) words Is
      (λ alert. absurd (both_ways (is_alert bits) nominal alert))
      (λ n. cond_both (has_half known.halves own) [] (words_of known.halves own) (λ ws. In (of_words own ws) (Received part))
      (λ there. absurd (both_ways (has_half known.halves own) new there))
      (λ m. h)))

  -- the pair of a page part that was received before was received
  pair_was : (taken even odd : StampedHalf) → IsHalfReceived w items taken
      → IsReceivedWith (IsHalfReceived w items) taken even odd
      → IsReceived (IsHalfReceived w items) even odd
  pair_was taken even odd there h =
      ⊎_elim
      (λ (first : (taken ≡ even) × IsHalfReceived w items odd).
      record { even_among = subst (IsHalfReceived w items) first.0 there; odd_among = first.1; make = h.0 })
      (λ (second : IsHalfReceived w items even × (taken ≡ odd)).
      record { even_among = second.0; odd_among = subst (IsHalfReceived w items) second.1 there; make = h.0 })
      h.1

  -- among the page parts in the state
  pair_known : (taken even odd : StampedHalf) → IsReceivedWith (IsHalfReceived w items) taken even odd
      → IsReceivedWith (Contains known.halves) taken even odd
  pair_known taken even odd h = (
    h.0,
    ⊎_elim
        (λ (first : (taken ≡ even) × IsHalfReceived w items odd). inl (first.0, knows.halves_from odd first.1))
        (λ (second : IsHalfReceived w items even × (taken ≡ odd)). inr (knows.halves_from even second.0, second.1))
        h.1,
  )

  -- a word of the item's page part and an earlier one
  pair_new : (item : LineItem) (taken even odd : StampedHalf) → IsNewHalf w items item taken
      → IsReceivedWith (IsHalfReceived w items) taken even odd
      → Contains (word_events (word_of even.half odd.half) odd.sat odd.stamp) (Received part)
      → IsPartReceived w items part ⊎ In (events_of w known item) (Received part)
  pair_new item taken even odd new pair yields =
      let own = half_of new.stamp new.sat new.signal new.bits in
      let Goal : Type 0 = IsPartReceived w items part ⊎ In (events_of w known item) (Received part) in
      cond_both (has_half known.halves taken) true false (λ b. Goal)
      (λ there. inl (inr (inr (record {
        even = even;
        odd = odd;
        heard = pair_was taken even odd (knows.halves_to taken ((laws.among known.halves taken).0 there)) pair;
        is = yields;
      }))))
      (λ fresh.
      let words : In (of_words taken (words_of known.halves taken)) (Received part) =
      pair_yields word_events (Contains known.halves) taken (words_of known.halves taken) (Received part) even odd
      (laws.words known.halves taken) (pair_known taken even odd pair)
      (in_from_contains (word_events (word_of even.half odd.half) odd.sat odd.stamp) (Received part) yields) in
      let fresh_own : has_half known.halves own ≡ false = subst (λ t. has_half known.halves t ≡ false) new.half_is fresh in
      let own_words : In (of_words own (words_of known.halves own)) (Received part) =
      subst (λ t. In (of_words t (words_of known.halves t)) (Received part)) new.half_is words in
      inr (subst (λ i. In (events_of w known i) (Received part)) (sym new.is)
      (yields_words new.stamp new.sat new.signal new.bits new.in_time new.nominal fresh_own own_words)))

  -- a word of which one page part is the item's
  word_of_new : (item : LineItem) (taken : StampedHalf) → IsNewHalf w items item taken
      → IsOfWord w (items ++ item ∷ []) part
      → IsPartReceived w items part ⊎ In (events_of w known item) (Received part)
  word_of_new item taken new h =
      let Either : StampedHalf → Type 0 = λ half. (taken ≡ half) ⊎ IsHalfReceived w items half in
      let either : (half : StampedHalf) → IsHalfReceived w (items ++ item ∷ []) half → Either half =
      λ half k. ⊎_elim
      (λ (was : IsHalfReceived w items half). inr was)
      (λ (other : IsNewHalf w items item half). inl (new_half_one w items item taken half new other))
      (half_cases w items item half k) in
      ⊎_elim
      (λ (was : IsReceived (IsHalfReceived w items) h.even h.odd). inl (inr (inr (record { even = h.even; odd = h.odd; heard = was; is = h.is }))))
      (λ (pair : IsReceivedWith (IsHalfReceived w items) taken h.even h.odd). pair_new item taken h.even h.odd new pair h.is)
      ((heard_with_one_more (IsHalfReceived w items) taken h.even h.odd).0
      (still_heard (IsHalfReceived w (items ++ item ∷ [])) Either h.even h.odd either h.heard))

  word_new : (item : LineItem) → IsOfWord w (items ++ item ∷ []) part
      → IsPartReceived w items part ⊎ In (events_of w known item) (Received part)
  word_new item h =
      ⊎_elim
      (λ (even_was : IsHalfReceived w items h.even).
      ⊎_elim
      (λ (odd_was : IsHalfReceived w items h.odd).
      inl (inr (inr (record {
        even = h.even;
        odd = h.odd;
        heard = record { even_among = even_was; odd_among = odd_was; make = h.heard.make };
        is = h.is;
      }))))
      (λ (new : IsNewHalf w items item h.odd). word_of_new item h.odd new h)
      (half_cases w items item h.odd h.heard.odd_among))
      (λ (new : IsNewHalf w items item h.even). word_of_new item h.even new h)
      (half_cases w items item h.even h.heard.even_among)

  -- what is received with one more item was received before, or the item gives it
  pub heard_cases : (item : LineItem) → IsPartReceived w (items ++ item ∷ []) part
      → IsPartReceived w items part ⊎ In (events_of w known item) (Received part)
  heard_cases item h =
      let more = items ++ item ∷ [] in
      ⊎_elim
      (λ (one : IsOfSubframe w more part). subframe_new item one)
      (λ (rest : IsOfFrame w more part ⊎ IsOfWord w more part).
      ⊎_elim (λ (one : IsOfFrame w more part). frame_new item one) (λ (one : IsOfWord w more part). word_new item one) rest)
      h
