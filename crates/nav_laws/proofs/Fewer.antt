-- From fewer accepted lines no more parts are received.
use Rattle.std.proofs.Common.{ℕ, List, inl, inr}
use Rattle.nav_eph.specs.declared.part.Part.{Part}
use Rattle.inav.specs.Received.{StampedHalf}
use Rattle.inav.proofs.Surface.{still_heard}
use Rattle.capture_lines.specs.Late.{IsAccepted}
use Rattle.capture_lines.specs.declared.item.LineItem.{LineItem}
use Rattle.capture_lines.specs.declared.item.LineItem.TheVariants.{Lnav, Half}
use Rattle.capture_log.specs.Received.{IsHalfReceived, IsPartReceived}

abbrev pub AcceptsAgain : ℕ → List LineItem → List LineItem → Type 0
AcceptsAgain w some other = (item : LineItem) → IsAccepted w some item → IsAccepted w other item

half_to : (w : ℕ) (some other : List LineItem) (half : StampedHalf) → AcceptsAgain w some other → IsHalfReceived w some half → IsHalfReceived w other half
half_to w some other half to h = record {
  stamp = h.stamp;
  sat = h.sat;
  signal = h.signal;
  bits = h.bits;
  accepted = to (Half h.stamp h.sat h.signal h.bits) h.accepted;
  nominal = h.nominal;
  half_is = h.half_is;
}

pub heard_to : (w : ℕ) (some other : List LineItem) (part : Part) → AcceptsAgain w some other → IsPartReceived w some part → IsPartReceived w other part
heard_to w some other part to (inl h) = inl (record { stamp = h.stamp; sat = h.sat; bits = h.bits; accepted = to (Lnav h.stamp h.sat h.bits) h.accepted; is = h.is })
heard_to w some other part to (inr (inl h)) =
    inr (inl (record { stamp = h.stamp; item = h.item; bytes = h.bytes; item_is = h.item_is; accepted = to h.item h.accepted; is = h.is }))
heard_to w some other part to (inr (inr h)) = inr (inr (record {
  even = h.even;
  odd = h.odd;
  heard = still_heard (IsHalfReceived w some) (IsHalfReceived w other) h.even h.odd (λ half x. half_to w some other half to x) h.heard;
  is = h.is;
}))
