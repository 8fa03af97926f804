-- Which lines are late, malformed or rejected, stated by each item and those before it.
use Rattle.std.specs.Prelude.{◌≡◌, ◌≤◌, ◌⊎◌, ℕ, ◌+◌, List, [], ◌∷◌, ◌++◌, length, Contains, Some}
use Rattle.inav.specs.Received.{IsReceived}
use Rattle.capture_lines.specs.Late.{stamp_of, IsLate}
use Rattle.capture_lines.specs.declared.item.LineItem.{LineItem}
use Rattle.capture_lines.specs.declared.item.LineItem.TheVariants.{Malformed}
use Rattle.capture_log.specs.Received.{IsHalfReceived}
use Rattle.capture_log.specs.Log.{Noted}
use Rattle.capture_log.specs.declared.event.Event.TheVariants.{Refused}
use Rattle.capture_log.specs.declared.event.EventFault.{EventFault}
use Rattle.job_laws.specs.Counted.{Pair, own_events, pair_events}

-- the item with this number, if the first item has the number `first`
pub record IsAt (first : ℕ) (items : List LineItem) (number : ℕ) (item : LineItem) : Type 0 where
  pub before : List LineItem
  pub after : List LineItem
  pub place : items ≡ before ++ item ∷ after
  pub number_is : number ≡ first + length before

-- The item with this number is late: an item before it has a time tag that is later by more than
-- the window.
pub record IsLateLine (window first : ℕ) (items : List LineItem) (number : ℕ) : Type 0 where
  pub item : LineItem
  pub at : IsAt first items number item
  pub stamp : ℕ
  pub stamp_is : stamp_of item ≡ Some stamp
  pub late : IsLate window at.before stamp

-- the item with this number is malformed
abbrev pub IsMalformedLine : ℕ → List LineItem → ℕ → Type 0
IsMalformedLine first items number = IsAt first items number Malformed

-- the item completes the word of two page parts: both are received with it, and not both without it
pub record IsCompletedBy (window : ℕ) (before : List LineItem) (item : LineItem) (word : Pair) : Type 0 where
  pub with_it : IsReceived (IsHalfReceived window (before ++ item ∷ [])) word.even word.odd
  pub not_before : IsReceived (IsHalfReceived window before) word.even word.odd → ⊥

-- The item with this number is rejected for this reason: its own subframe or frame is, as it is not
-- late, or a word that it completes.
pub record IsRefusedLine (window first : ℕ) (items : List LineItem) (number : ℕ) (reason : EventFault) : Type 0 where
  pub item : LineItem
  pub at : IsAt first items number item
  pub refused : Contains (own_events window at.before item) (Refused reason)
      ⊎ ((word : Pair) × IsCompletedBy window at.before item word × Contains (pair_events word) (Refused reason))

-- the events are in the order of their lines, the first of which has at least this number
abbrev pub InLineOrder : ℕ → List Noted → Type 0
InLineOrder first [] = Unit {0}
InLineOrder first (x ∷ xs) = (first ≤ x.line) × InLineOrder x.line xs
