-- What is counted of a log: the events of each item alone, and those of each I/NAV word that is received.
use Rattle.std.specs.Prelude.{◌↔◌, ℕ, ◌+◌, List, [], ◌∷◌, ◌++◌, map, sum, Contains}
use Rattle.inav.specs.Pages.{word_of}
use Rattle.inav.specs.Received.{StampedHalf, IsReceived}
use Rattle.inav.specs.Reading.{reading_of}
use Rattle.capture_lines.specs.Late.{greatest_stamp}
use Rattle.capture_lines.specs.declared.item.LineItem.{LineItem}
use Rattle.capture_log.specs.Events.{events_of, of_word}
use Rattle.capture_log.specs.Received.{IsHalfReceived}
use Rattle.capture_log.specs.Log.{Noted}
use Rattle.capture_log.specs.declared.event.Event.{Event}

-- the two page parts of a word
pub record Pair : Type 0 where
  pub even : StampedHalf
  pub odd : StampedHalf

-- the events of its word, received at the second of its odd part
abbrev pub pair_events : Pair → List Event
pair_events p = of_word (reading_of (word_of p.even.half p.odd.half) p.odd.sat p.odd.stamp)

-- no element occurs twice
abbrev pub IsOnce : {X : Type 0} → List X → Type 0
IsOnce [] = Unit {0}
IsOnce (x ∷ xs) = (Contains xs x → ⊥) × IsOnce xs

-- the pairs of page parts that are received in the items, each once
pub record ArePairsReceived (window : ℕ) (items : List LineItem) (pairs : List Pair) : Type 0 where
  pub once : IsOnce pairs
  pub each : (p : Pair) → Contains pairs p ↔ IsReceived (IsHalfReceived window items) p.even p.odd

-- the events of an item alone, after those before it: all but the words that a page part completes
abbrev pub own_events : ℕ → List LineItem → LineItem → List Event
own_events window before item =
    events_of window (record { greatest = greatest_stamp before; halves = [] }) item

-- the total of a kind over events
abbrev pub weight_of : (Event → ℕ) → List Event → ℕ
weight_of kind events = sum (map kind events)

-- the total of a kind over a log
abbrev pub weight_in : (Event → ℕ) → List Noted → ℕ
weight_in kind log = sum (map (λ n. kind n.event) log)

-- the total of a kind over the events of each item alone, after those before it
abbrev pub own_weight : (Event → ℕ) → ℕ → List LineItem → List LineItem → ℕ
own_weight kind window before [] = 0
own_weight kind window before (item ∷ items) =
    weight_of kind (own_events window before item) + own_weight kind window (before ++ item ∷ []) items

-- the total of a kind over the words of pairs
abbrev pub pairs_weight : (Event → ℕ) → List Pair → ℕ
pairs_weight kind pairs = sum (map (λ p. weight_of kind (pair_events p)) pairs)
