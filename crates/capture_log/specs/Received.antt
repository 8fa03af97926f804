-- The received parts, stated over all items of a capture at once: those of its accepted subframes, of the messages in its
-- accepted frames, and of the words of its accepted page parts.
use Rattle.std.specs.Prelude.{◌≡◌, ◌⊎◌, ◌↔◌, ℕ, false, List, Contains, Some}
use Rattle.nav_eph.specs.Satellite.{Satellite}
use Rattle.nav_eph.specs.declared.part.Part.{Part}
use Rattle.nav_eph.specs.declared.signal.Signal.{Signal}
use Rattle.inav.specs.Pages.{word_of}
use Rattle.inav.specs.Received.{StampedHalf, IsReceived}
use Rattle.inav.specs.Reading.{reading_of}
use Rattle.capture_lines.specs.Late.{stamp_of, IsAccepted}
use Rattle.capture_lines.specs.declared.item.LineItem.{LineItem}
use Rattle.capture_lines.specs.declared.item.LineItem.TheVariants.{Lnav, Half, Frame}
use Rattle.lnav_subframe.specs.Reading.{subframe_of}
use Rattle.capture_log.specs.Events.{of_subframe, of_frame, of_word, half_of, is_alert}
use Rattle.capture_log.specs.declared.event.Event.TheVariants.{Received}

-- the part is in an accepted subframe
pub record IsOfSubframe (window : ℕ) (items : List LineItem) (part : Part) : Type 0 where
  pub stamp : ℕ
  pub sat : Satellite
  pub bits : List ℕ
  pub accepted : IsAccepted window items (Lnav stamp sat bits)
  pub is : of_subframe (subframe_of bits sat stamp) ≡ Received part

-- the part is in the message of an accepted frame
pub record IsOfFrame (window : ℕ) (items : List LineItem) (part : Part) : Type 0 where
  pub stamp : ℕ
  pub item : LineItem
  pub bytes : List ℕ
  pub item_is : item ≡ Frame stamp (record { items = bytes })
  pub accepted : IsAccepted window items item
  pub is : Contains (of_frame stamp bytes) (Received part)

-- the page part is accepted, and not of an alert page
pub record IsHalfReceived (window : ℕ) (items : List LineItem) (half : StampedHalf) : Type 0 where
  pub stamp : ℕ
  pub sat : Satellite
  pub signal : Signal
  pub bits : List ℕ
  pub accepted : IsAccepted window items (Half stamp sat signal bits)
  pub nominal : is_alert bits ≡ false
  pub half_is : half ≡ half_of stamp sat signal bits

-- the part is in a word of two received page parts; its time tag is that of the odd one
pub record IsOfWord (window : ℕ) (items : List LineItem) (part : Part) : Type 0 where
  pub even : StampedHalf
  pub odd : StampedHalf
  pub heard : IsReceived (IsHalfReceived window items) even odd
  pub is : Contains (of_word (reading_of (word_of even.half odd.half) odd.sat odd.stamp))
      (Received part)

-- a received part
abbrev pub IsPartReceived : ℕ → List LineItem → Part → Type 0
IsPartReceived window items part =
    IsOfSubframe window items part ⊎ (IsOfFrame window items part ⊎ IsOfWord window items part)

-- the same items with a time tag are in both lists, in any order and number
abbrev pub SameItems : List LineItem → List LineItem → Type 0
SameItems some other =
    (item : LineItem) (s : ℕ) → stamp_of item ≡ Some s → Contains some item ↔ Contains other item

-- none of the items is late
abbrev pub NoneLate : ℕ → List LineItem → Type 0
NoneLate window items =
    (item : LineItem) (s : ℕ) → stamp_of item ≡ Some s → Contains items item
    → IsAccepted window items item
