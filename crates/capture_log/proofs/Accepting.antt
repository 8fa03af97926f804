-- What is accepted, and received, with one more item.
use Rattle.std.proofs.Common.{◌≡◌, ℕ, ◌⊎◌, max, inl, inr, false, List, [], ◌∷◌, ◌++◌, Some}
use Rattle.std.proofs.Common.{unwrap_or, refl, sym, ap, subst, ◌∙◌, ⊎_elim, append_assoc, arith}
use Rattle.nav_eph.specs.Satellite.{Satellite}
use Rattle.nav_eph.specs.declared.part.Part.{Part}
use Rattle.nav_eph.specs.declared.signal.Signal.{Signal}
use Rattle.inav.specs.Received.{StampedHalf}
use Rattle.inav.proofs.Surface.{still_heard}
use Rattle.capture_lines.specs.Late.{stamp_of, IsLate, IsAccepted, greatest_stamp}
use Rattle.capture_lines.specs.declared.item.LineItem.{LineItem}
use Rattle.capture_lines.specs.declared.item.LineItem.TheVariants.{Lnav, Half}
use Rattle.capture_log.specs.Events.{half_of, is_alert}
use Rattle.capture_log.specs.Received.{IsOfSubframe, IsOfFrame, IsHalfReceived, IsOfWord, IsPartReceived}
use Rattle.capture_log.proofs.Lists.{last_or_not}

-- the greatest stamp with one more item
pub greatest_more : (items : List LineItem) (item : LineItem)
    → greatest_stamp (items ++ item ∷ []) ≡ max (greatest_stamp items) (unwrap_or (stamp_of item) 0)
greatest_more [] item = omega arith
greatest_more (x ∷ xs) item = let rest = greatest_more xs item in omega arith

-- the last item is another one, and in time
pub record IsNewest (w : ℕ) (items : List LineItem) (item other : LineItem) : Type 0 where
  pub is : item ≡ other
  pub stamp : ℕ
  pub stamp_is : stamp_of other ≡ Some stamp
  pub in_time : IsLate w items stamp → ⊥

-- what is accepted stays accepted with more items after it
pub prefix_accepted : (w : ℕ) (items more : List LineItem) (other : LineItem)
    → IsAccepted w items other → IsAccepted w (items ++ more) other
prefix_accepted w items more other h = record {
  before = h.before;
  after = h.after ++ more;
  place = ap (λ l. l ++ more) h.place ∙ append_assoc h.before (other ∷ h.after) more;
  stamp = h.stamp;
  stamp_is = h.stamp_is;
  in_time = h.in_time;
}

pub still_accepted : (w : ℕ) (items : List LineItem) (item other : LineItem)
    → IsAccepted w items other → IsAccepted w (items ++ item ∷ []) other
still_accepted w items item other h = prefix_accepted w items (item ∷ []) other h

pub last_accepted : (w : ℕ) (items : List LineItem) (item : LineItem) (stamp : ℕ)
    → stamp_of item ≡ Some stamp → (IsLate w items stamp → ⊥)
    → IsAccepted w (items ++ item ∷ []) item
last_accepted w items item stamp is in_time = record {
  before = items;
  after = [];
  place = refl;
  stamp = stamp;
  stamp_is = is;
  in_time = in_time;
}

pub accepted_cases : (w : ℕ) (items : List LineItem) (item other : LineItem)
    → IsAccepted w (items ++ item ∷ []) other
    → IsAccepted w items other ⊎ IsNewest w items item other
accepted_cases w items item other h = elim (last_or_not items h.before h.after item other h.place) [
  | inl r ↦ inl (record { before = h.before; after = r.0; place = r.1; stamp = h.stamp; stamp_is = h.stamp_is; in_time = h.in_time })
  | inr r ↦ inr (record {
    is = r.1;
    stamp = h.stamp;
    stamp_is = h.stamp_is;
    in_time = λ late. h.in_time (subst (λ l. IsLate w l h.stamp) r.0 late);
  })
]

-- ---- where more is accepted, more is received

module _ (w : ℕ) (items more : List LineItem) (keeps : (item : LineItem) → IsAccepted w items item → IsAccepted w more item) where
  pub half_keeps : (half : StampedHalf) → IsHalfReceived w items half → IsHalfReceived w more half
  half_keeps half h = record {
    stamp = h.stamp;
    sat = h.sat;
    signal = h.signal;
    bits = h.bits;
    accepted = keeps (Half h.stamp h.sat h.signal h.bits) h.accepted;
    nominal = h.nominal;
    half_is = h.half_is;
  }

  pub subframe_keeps : (part : Part) → IsOfSubframe w items part → IsOfSubframe w more part
  subframe_keeps part h = record { stamp = h.stamp; sat = h.sat; bits = h.bits; accepted = keeps (Lnav h.stamp h.sat h.bits) h.accepted; is = h.is }

  pub frame_keeps : (part : Part) → IsOfFrame w items part → IsOfFrame w more part
  frame_keeps part h = record { stamp = h.stamp; item = h.item; bytes = h.bytes; item_is = h.item_is; accepted = keeps h.item h.accepted; is = h.is }

  pub word_keeps : (part : Part) → IsOfWord w items part → IsOfWord w more part
  word_keeps part h = record {
    even = h.even;
    odd = h.odd;
    heard = still_heard (IsHalfReceived w items) (IsHalfReceived w more) h.even h.odd half_keeps h.heard;
    is = h.is;
  }

  pub part_keeps : (part : Part) → IsPartReceived w items part → IsPartReceived w more part
  part_keeps part h =
      ⊎_elim
      (λ (one : IsOfSubframe w items part). inl (subframe_keeps part one))
      (λ (rest : IsOfFrame w items part ⊎ IsOfWord w items part).
      inr (⊎_elim (λ (one : IsOfFrame w items part). inl (frame_keeps part one)) (λ (one : IsOfWord w items part). inr (word_keeps part one)) rest))
      h

-- ---- a page part that is received with one more item is an earlier one, or the item's

-- the item is a page part in time, and no alert
pub record IsNewHalf (w : ℕ) (items : List LineItem) (item : LineItem) (half : StampedHalf) : Type 0 where
  pub stamp : ℕ
  pub sat : Satellite
  pub signal : Signal
  pub bits : List ℕ
  pub is : item ≡ Half stamp sat signal bits
  pub in_time : IsLate w items stamp → ⊥
  pub nominal : is_alert bits ≡ false
  pub half_is : half ≡ half_of stamp sat signal bits

some_one : (a b : ℕ) → Some a ≡ Some b → a ≡ b
some_one a b e = cc

pub half_cases : (w : ℕ) (items : List LineItem) (item : LineItem) (half : StampedHalf)
    → IsHalfReceived w (items ++ item ∷ []) half
    → IsHalfReceived w items half ⊎ IsNewHalf w items item half
half_cases w items item half h = elim (accepted_cases w items item (Half h.stamp h.sat h.signal h.bits) h.accepted) [
  | inl was ↦ inl (record {
    stamp = h.stamp;
    sat = h.sat;
    signal = h.signal;
    bits = h.bits;
    accepted = was;
    nominal = h.nominal;
    half_is = h.half_is;
  })
  | inr new ↦ inr (record {
    stamp = h.stamp;
    sat = h.sat;
    signal = h.signal;
    bits = h.bits;
    is = new.is;
    in_time = λ late. new.in_time (subst (IsLate w items) (some_one h.stamp new.stamp new.stamp_is) late);
    nominal = h.nominal;
    half_is = h.half_is;
  })
]

-- the page part's fields determine the item's
pub of_half_item : {X : Type 0} (f : ℕ → Satellite → Signal → List ℕ → X) (s t : ℕ) (a b : Satellite) (g h : Signal) (xs ys : List ℕ)
    → Half s a g xs ≡ Half t b h ys → f s a g xs ≡ f t b h ys
of_half_item f s t a b g h xs ys e = cc

-- all new page parts of an item are one
pub new_half_one : (w : ℕ) (items : List LineItem) (item : LineItem) (one other : StampedHalf)
    → IsNewHalf w items item one
    → IsNewHalf w items item other → one ≡ other
new_half_one w items item one other h k =
    h.half_is ∙ of_half_item half_of h.stamp k.stamp h.sat k.sat h.signal k.signal h.bits k.bits (sym h.is ∙ k.is) ∙ sym k.half_is
