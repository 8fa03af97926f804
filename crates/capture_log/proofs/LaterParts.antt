-- No part comes from before the watermark, so what further lines give is later.
use Rattle.std.proofs.Common.{◌≡◌, ℕ, ◌+◌, ◌-◌, ◌≤◌, inl, inr, false, if◌then◌else◌, List, [], ◌∷◌}
use Rattle.std.proofs.Common.{sym, subst, ⊎_elim, arith, ltb-false}
use Rattle.std.proofs.lemmas.Bool.{cond_both}
use Rattle.nav_eph.specs.declared.part.Part.{Part}
use Rattle.inav.specs.declared.half.HalfKind.{HalfKind}
use Rattle.inav.specs.declared.half.HalfKind.TheVariants.{Even, Odd}
use Rattle.inav.specs.Pages.{kind_of}
use Rattle.inav.specs.Received.{StampedHalf, stamp_by}
use Rattle.inav.specs.Reading.{reading_of}
use Rattle.capture_lines.specs.declared.item.LineItem.{LineItem}
use Rattle.capture_lines.specs.declared.item.LineItem.TheVariants.{Pass, Lnav, Half, Frame}
use Rattle.capture_lines.specs.declared.item.LineItem.TheVariants.{Malformed as MalformedItem}
use Rattle.lnav_subframe.specs.Reading.{subframe_of}
use Rattle.capture_log.specs.declared.event.Event.{Event}
use Rattle.capture_log.specs.declared.event.Event.TheVariants.{Received, Malformed, Late, Unused}
use Rattle.capture_log.specs.Events.{Known, of_subframe, of_frame, of_word, half_of, is_alert}
use Rattle.capture_log.specs.Events.{is_late, of_words, new_words, events_of, known_with}
use Rattle.capture_log.specs.Log.{known_from, log_from, parts_in}
use Rattle.capture_log.proofs.Lists.{In, in_flat_map}
use Rattle.capture_log.proofs.ReceivedValues.{HoldsOfRead, of_subframe_part, of_word_part}
use Rattle.capture_log.proofs.ReceivedValues.{of_frame_part}
use Rattle.capture_log.proofs.AllItems.{first_or_later}

abbrev pub Always : ℕ → Type 0
Always stamp = Unit {0}

abbrev pub HasStamp : ℕ → Part → Type 0
HasStamp stamp part = part.stamp ≡ stamp

-- what is read at a stamp has this stamp
abbrev pub ReadsStamps : Type 0
ReadsStamps = HoldsOfRead Always HasStamp

stamp_by-le : (kind : HalfKind) (stamp : ℕ) → stamp ≤ stamp_by kind stamp
stamp_by-le Even stamp = omega arith
stamp_by-le Odd stamp = omega arith

pub no_part : (event : Event) (part : Part) → (event ≡ Received part → ⊥)
    → In (event ∷ []) (Received part) → ⊥
no_part event part other (inl e) = other e
no_part event part other (inr h) = absurd h

pub single : (event : Event) (part : Part) → In (event ∷ []) (Received part) → event ≡ Received part
single event part (inl e) = e
single event part (inr h) = absurd h

module _ (laws : ReadsStamps) (w : ℕ) (known : Known) (part : Part) where
  -- in time, and at the stamp or later
  from_watermark : (stamp : ℕ) → is_late w known stamp ≡ false → stamp ≤ part.stamp
      → known.greatest - w ≤ part.stamp
  from_watermark stamp timely at = let low = ltb-false (stamp + w) known.greatest timely in omega arith

  words_later : (taken : StampedHalf) (words : List (List ℕ))
      → In (of_words taken words) (Received part) → taken.stamp ≤ part.stamp
  words_later taken words h =
      let stamp = stamp_by (kind_of taken.half) taken.stamp in
      let word = in_flat_map (λ word. of_word (reading_of word taken.sat stamp)) words (Received part) h in
      let same : part.stamp ≡ stamp = of_word_part Always HasStamp laws word.0 taken.sat stamp part tt word.2 in
      let low : taken.stamp ≤ stamp = stamp_by-le (kind_of taken.half) taken.stamp in
      subst (λ n. taken.stamp ≤ n) (sym same) low

  -- no part of an item comes from before the watermark
  pub events_later : (item : LineItem) → In (events_of w known item) (Received part)
      → known.greatest - w ≤ part.stamp
  unfolding events_of
  events_later Pass h = absurd h
  events_later MalformedItem h = absurd (no_part Malformed part (λ e. (cc)) h)
  events_later (Lnav stamp sat bits) h =
      cond_both (is_late w known stamp) (Late ∷ []) (of_subframe (subframe_of bits sat stamp) ∷ [])
      (λ es. In es (Received part) → known.greatest - w ≤ part.stamp)
      (λ late k. absurd (no_part Late part (λ e. (cc)) k))
      (λ timely k.
      let own : part.stamp ≡ stamp =
      of_subframe_part Always HasStamp laws bits sat stamp part tt (single (of_subframe (subframe_of bits sat stamp)) part k) in
      from_watermark stamp timely (omega (arith, own)))
      h
  events_later (Frame stamp bytes) h =
      cond_both (is_late w known stamp) (Late ∷ []) (of_frame stamp bytes.items)
      (λ es. In es (Received part) → known.greatest - w ≤ part.stamp)
      (λ late k. absurd (no_part Late part (λ e. (cc)) k))
      (λ timely k.
      let own : part.stamp ≡ stamp = of_frame_part Always HasStamp laws stamp bytes.items part tt k in
      from_watermark stamp timely (omega (arith, own)))
      h
  events_later (Half stamp sat signal bits) h =
      let own = half_of stamp sat signal bits in
      let Is : List Event → Type 0 = λ es. In es (Received part) → known.greatest - w ≤ part.stamp in
      let words = of_words own (new_words known.halves own) in
      cond_both (is_late w known stamp) (Late ∷ []) (if is_alert bits then Unused ∷ [] else words) Is
      (λ late k. absurd (no_part Late part (λ e. (cc)) k))
      (λ timely. cond_both (is_alert bits) (Unused ∷ []) words Is
      (λ alert k. absurd (no_part Unused part (λ e. (cc)) k))
      (λ nominal k. from_watermark stamp timely (words_later own (new_words known.halves own) k)))
      h

-- the greatest stamp rises
greatest_rises : (w : ℕ) (known : Known) (item : LineItem)
    → known.greatest ≤ (known_with w known item).greatest
unfolding known_with
greatest_rises w known item = omega arith

pub greatest_from : (w : ℕ) (known : Known) (items : List LineItem)
    → known.greatest ≤ (known_from w known items).greatest
greatest_from w known [] = omega arith
greatest_from w known (item ∷ items) =
    let first : known.greatest ≤ (known_with w known item).greatest = greatest_rises w known item in
    let rest : (known_with w known item).greatest ≤ (known_from w (known_with w known item) items).greatest =
    greatest_from w (known_with w known item) items in
    omega (arith, first, rest)

-- no part of items comes from before the watermark
pub log_later : (laws : ReadsStamps) (w : ℕ) (known : Known) (number : ℕ) (items : List LineItem) (part : Part)
    → In (parts_in (log_from w known number items)) part → known.greatest - w ≤ part.stamp
log_later laws w known number [] part h = absurd h
log_later laws w known number (item ∷ items) part h =
    ⊎_elim
    (λ (first : In (events_of w known item) (Received part)). events_later laws w known part item first)
    (λ (rest : In (parts_in (log_from w (known_with w known item) (number + 1) items)) part).
    let rises : known.greatest ≤ (known_with w known item).greatest = greatest_rises w known item in
    let later : (known_with w known item).greatest - w ≤ part.stamp = log_later laws w (known_with w known item) (number + 1) items part rest in
    omega (arith, rises, later))
    (first_or_later w known number item items part h)
