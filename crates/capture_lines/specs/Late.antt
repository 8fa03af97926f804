-- Late and accepted lines.
use Rattle.std.specs.Prelude.{◌≡◌, ℕ, ◌+◌, ◌<◌, max, List, [], ◌∷◌, ◌++◌, Contains, Option, Some, None, unwrap_or}
use Rattle.capture_lines.specs.declared.item.LineItem.{LineItem}
use Rattle.capture_lines.specs.declared.item.LineItem.TheVariants.{Pass, Lnav, Half, Frame, Malformed}

-- the time tag of an item; a skipped or malformed line has none
abbrev pub stamp_of : LineItem → Option ℕ
stamp_of Pass = None
stamp_of (Lnav stamp sat bits) = Some stamp
stamp_of (Half stamp sat signal bits) = Some stamp
stamp_of (Frame stamp bytes) = Some stamp
stamp_of Malformed = None

-- a line with this time tag is late: the time tag plus the window is below the time tag of a line
-- before it
pub record IsLate (window : ℕ) (before : List LineItem) (stamp : ℕ) : Type 0 where
  pub other : LineItem
  pub other_stamp : ℕ
  pub stands : Contains before other
  pub stamp_is : stamp_of other ≡ Some other_stamp
  pub later : stamp + window < other_stamp

-- an item of the lines is accepted: it has a time tag and is not late after those before it
pub record IsAccepted (window : ℕ) (items : List LineItem) (item : LineItem) : Type 0 where
  pub before : List LineItem
  pub after : List LineItem
  pub place : items ≡ before ++ item ∷ after
  pub stamp : ℕ
  pub stamp_is : stamp_of item ≡ Some stamp
  pub in_time : IsLate window before stamp → ⊥

-- the greatest time tag of the items, 0 if there is none
abbrev pub greatest_stamp : List LineItem → ℕ
greatest_stamp [] = 0
greatest_stamp (item ∷ items) = max (unwrap_or (stamp_of item) 0) (greatest_stamp items)
