-- Which accepted page parts are kept: those that a page part that is not late can pair with, and so after each line.
use Rattle.std.proofs.Common.{◌≡◌, ℕ, ◌+◌, ◌≤◌, max, true, false, List, [], ◌∷◌, ◌⊎◌, ◌↔◌, inl, inr, Contains, sym, ap, subst, ◌∙◌, ⊎_elim, arith}
use Rattle.std.proofs.lemmas.Bool.{cond_both, cond-true, cond-false, both_ways}
use Rattle.std.proofs.lemmas.List.Elements.{Contains-append_cases, Contains-append_left, Contains-append_right, Contains-push, Contains-push_cases, at_from_Contains}
use Rattle.nav_eph.specs.Satellite.{Satellite}
use Rattle.nav_eph.specs.declared.signal.Signal.{Signal}
use Rattle.inav.specs.Received.{StampedHalf, ArePartners, AreWordsWith, has_half, stamp_by, words_of}
use Rattle.inav.specs.Pages.{kept_of, kind_of}
use Rattle.nav_bits.specs.Bits.{number_at}
use Rattle.inav.specs.Keeping.{Keeping, IsKeptWith, IsRecent, stamped}
use Rattle.inav.proofs.Surface.{one_list_of}
use Rattle.capture_log.specs.Events.{Known, half_of, is_alert, new_words, of_half, of_words, with_half}
use Rattle.capture_log.specs.declared.event.Event.TheVariants.{Unused}
use Rattle.captures.specs.Notes.{KeepsHalves, TookHalf, of_received}
use Rattle.captures.proofs.WordsReceived.{received_at}

-- the laws of page parts
abbrev pub IsDecided : Type 0
IsDecided = (halves : List StampedHalf) (half : StampedHalf) → (has_half halves half ≡ true) ↔ Contains halves half

abbrev pub AreTheFunction : Type 0
AreTheFunction = (halves : List StampedHalf) (taken : StampedHalf) → AreWordsWith (Contains halves) taken (words_of halves taken)

-- a partner is a second away at most
partner_stamp : (taken other : StampedHalf) → ArePartners taken other → taken.stamp ≤ other.stamp + 1
partner_stamp taken other (inl h) = omega (arith, h.stamp)
partner_stamp taken other (inr h) = omega (arith, h.stamp)

-- the words made with the page parts that are kept are those made with all that are known
same_words : (keeping : Keeping) (window : ℕ) (known : Known) (taken : StampedHalf) (words : List (List ℕ)) → KeepsHalves keeping window known
    → known.greatest ≤ taken.stamp + window → AreWordsWith (Contains keeping.kept) taken words → AreWordsWith (Contains known.halves) taken words
same_words keeping window known taken words keeps timely h = record {
  partners = h.partners;
  each = λ other. (
    λ there. let both = (h.each other).0 there in (keeps.kept_to other both.0, both.1),
    λ both.
        let near = partner_stamp taken other both.1 in
        let recent : IsRecent window keeping.greatest other = omega (arith, keeps.low, timely, near) in
        (h.each other).1 (keeps.kept_from other both.0 recent, both.1),
  );
  ascending = h.ascending;
  words_are = h.words_are;
}

-- the words that a page part completes with those kept are the new ones
pub half_words : IsDecided → AreTheFunction → (keeping : Keeping) (window : ℕ) (known : Known) (taken : StampedHalf) (words : List (List ℕ))
    → KeepsHalves keeping window known → known.greatest ≤ taken.stamp + window
    → ((Contains keeping.kept taken → ⊥) → AreWordsWith (Contains keeping.kept) taken words)
    → (Contains keeping.kept taken → words ≡ [])
    → words ≡ new_words known.halves taken
half_words decided functions keeping window known taken words keeps timely fresh again =
    cond_both (has_half known.halves taken) [] (words_of known.halves taken) (λ (ws : List (List ℕ)). words ≡ ws)
    (λ there.
    let recent : IsRecent window keeping.greatest taken = omega (arith, keeps.low, timely) in
    again (keeps.kept_from taken ((decided known.halves taken).0 there) recent))
    (λ new.
    let none : Contains keeping.kept taken → ⊥ = λ h. both_ways (has_half known.halves taken) new ((decided known.halves taken).1 (keeps.kept_to taken h)) in
    one_list_of (Contains known.halves) taken words (words_of known.halves taken)
    (same_words keeping window known taken words keeps timely (fresh none)) (functions known.halves taken))

-- one more page part among those that are known
none_there : (x : StampedHalf) → Contains [] x → ⊥
none_there x h = let place = at_from_Contains [] x h in omega (arith, place.1)

first_cases : (halves : List StampedHalf) (half x : StampedHalf) → Contains (half ∷ halves) x → Contains halves x ⊎ (half ≡ x)
first_cases halves half x h =
    ⊎_elim
    (λ (first : Contains (half ∷ []) x).
    ⊎_elim (λ (there : Contains [] x). absurd (none_there x there)) (λ (is : half ≡ x). inr is) (Contains-push_cases [] half x first))
    (λ (later : Contains halves x). inl later)
    (Contains-append_cases (half ∷ []) halves x h)

first_from : (halves : List StampedHalf) (half x : StampedHalf) → Contains halves x ⊎ (half ≡ x) → Contains (half ∷ halves) x
first_from halves half x (inl later) = Contains-append_right (half ∷ []) halves x later
first_from halves half x (inr is) = Contains-append_left (half ∷ []) halves x (subst (Contains (half ∷ [])) is (Contains-push [] half))

with_half_to : (halves : List StampedHalf) (half x : StampedHalf) → Contains (with_half halves half) x → Contains halves x ⊎ (half ≡ x)
with_half_to halves half x =
    cond_both (has_half halves half) halves (half ∷ halves) (λ (l : List StampedHalf). Contains l x → Contains halves x ⊎ (half ≡ x))
    (λ there h. inl h) (λ new h. first_cases halves half x h)

with_half_from : IsDecided → (halves : List StampedHalf) (half x : StampedHalf) → Contains halves x ⊎ (half ≡ x) → Contains (with_half halves half) x
with_half_from decided halves half x h =
    cond_both (has_half halves half) halves (half ∷ halves) (λ (l : List StampedHalf). Contains l x)
    (λ there. ⊎_elim (λ (was : Contains halves x). was) (λ (is : half ≡ x). subst (Contains halves) is ((decided halves half).0 there)) h)
    (λ new. first_from halves half x h)

-- the kept page parts stay the right ones after a stamp without a page part
pub keeps_more : (keeping : Keeping) (window : ℕ) (known : Known) (greatest : ℕ) → known.greatest ≤ greatest → KeepsHalves keeping window known
    → KeepsHalves keeping window (record { greatest = greatest; halves = known.halves })
keeps_more keeping window known greatest rise keeps = record {
  window_is = keeps.window_is;
  kept_to = keeps.kept_to;
  kept_from = keeps.kept_from;
  recent = keeps.recent;
  low = omega (arith, keeps.low, rise);
}

-- the kept page parts stay the right ones after a page part
pub half_keeps : IsDecided → (old new : Keeping) (window : ℕ) (known : Known) (taken : StampedHalf)
    → KeepsHalves old window known
    → ((other : StampedHalf) → Contains new.kept other ↔ IsKeptWith old taken new.greatest other)
    → new.greatest ≡ max old.greatest taken.stamp → new.window ≡ old.window
    → KeepsHalves new window (record { greatest = max known.greatest taken.stamp; halves = with_half known.halves taken })
half_keeps decided old new window known taken keeps kept greatest same = record {
  window_is = same ∙ keeps.window_is;
  kept_to = λ h there. with_half_from decided known.halves taken h
      (⊎_elim (λ (was : Contains old.kept h). inl (keeps.kept_to h was)) (λ (is : taken ≡ h). inr is) ((kept h).0 there).0);
  kept_from = λ h there recent.
      (kept h).1 (
        ⊎_elim
            (λ (was : Contains known.halves h).
            let before : IsRecent window old.greatest h = omega (arith, recent, greatest) in
            inl (keeps.kept_from h was before))
            (λ (is : taken ≡ h). inr is)
            (with_half_to known.halves taken h there),
        omega (arith, recent, keeps.window_is),
      );
  recent = λ h there. let r = ((kept h).0 there).1 in omega (arith, r, keeps.window_is);
  low = omega (arith, keeps.low, greatest);
}

-- ---- the same, for the bits of a page part

pub took_alert : (keeping : Keeping) (window : ℕ) (known : Known) (stamp : ℕ) (sat : Satellite) (signal : Signal) (bits : List ℕ)
    → is_alert bits ≡ true → KeepsHalves keeping window known → TookHalf keeping window known stamp sat signal bits
took_alert keeping window known stamp sat signal bits alert keeps =
    subst (λ (hs : List StampedHalf). KeepsHalves keeping window (record { greatest = max known.greatest stamp; halves = hs }))
    (sym (cond-true (is_alert bits) known.halves (with_half known.halves (half_of stamp sat signal bits)) alert))
    (keeps_more keeping window known (max known.greatest stamp) (omega arith) keeps)

pub took_half : IsDecided → (old new : Keeping) (window : ℕ) (known : Known) (stamp : ℕ) (sat : Satellite) (signal : Signal) (bits : List ℕ) (half : ℕ)
    → is_alert bits ≡ false → half ≡ kept_of (number_at bits 0 120) → KeepsHalves old window known
    → ((other : StampedHalf) → Contains new.kept other ↔ IsKeptWith old (stamped stamp sat signal half) new.greatest other)
    → new.greatest ≡ max old.greatest stamp → new.window ≡ old.window → TookHalf new window known stamp sat signal bits
took_half decided old new window known stamp sat signal bits half nominal is keeps kept greatest same =
    subst (λ (hs : List StampedHalf). KeepsHalves new window (record { greatest = max known.greatest stamp; halves = hs }))
    (ap (λ (h : ℕ). with_half known.halves (stamped stamp sat signal h)) is
    ∙ sym (cond-false (is_alert bits) known.halves (with_half known.halves (half_of stamp sat signal bits)) nominal))
    (half_keeps decided old new window known (stamped stamp sat signal half) keeps kept greatest same)

pub half_events : (halves : List StampedHalf) (stamp : ℕ) (sat : Satellite) (signal : Signal) (bits : List ℕ) (half heard : ℕ) (words : List (List ℕ))
    → is_alert bits ≡ false → half ≡ kept_of (number_at bits 0 120) → words ≡ new_words halves (stamped stamp sat signal half)
    → ((words ≡ [] → ⊥) → heard ≡ stamp_by (kind_of half) stamp) → of_received sat heard words ≡ of_half halves stamp sat signal bits
half_events halves stamp sat signal bits half heard words nominal is new at =
    received_at sat heard (stamp_by (kind_of half) stamp) words at ∙ ap (of_received sat (stamp_by (kind_of half) stamp)) new
    ∙ ap (λ (h : ℕ). of_words (stamped stamp sat signal h) (new_words halves (stamped stamp sat signal h))) is
    ∙ sym (cond-false (is_alert bits) (Unused ∷ []) (of_words (half_of stamp sat signal bits) (new_words halves (half_of stamp sat signal bits))) nominal)
