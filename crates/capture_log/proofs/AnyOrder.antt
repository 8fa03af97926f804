-- What is received depends on the set of items, not on their order.
use Rattle.std.proofs.Common.{◌≡◌, ℕ, ◌↔◌, List, Contains, Some}
use Rattle.nav_eph.specs.declared.part.Part.{Part}
use Rattle.periods.specs.PeriodLists.{ArePeriods, AreClosed}
use Rattle.periods.specs.PeriodsOf.{periods_of, closed_of}
use Rattle.periods.proofs.Surface.{ArePeriods-same, closed_at-are}
use Rattle.capture_lines.specs.Late.{stamp_of, IsAccepted}
use Rattle.capture_lines.specs.declared.item.LineItem.{LineItem}
use Rattle.capture_log.specs.Events.{nothing_known}
use Rattle.capture_log.specs.Log.{log_from, parts_in}
use Rattle.capture_log.specs.Received.{IsPartReceived, SameItems, NoneLate}
use Rattle.capture_log.proofs.Lists.{contains_from_in, in_middle}
use Rattle.capture_log.proofs.Accepting.{part_keeps}

-- what is accepted of some items is accepted of the same set, where none is late
accepted_there : (w : ℕ) (some other : List LineItem)
    → ((item : LineItem) (s : ℕ) → stamp_of item ≡ Some s → Contains some item → Contains other item)
    → NoneLate w other → (item : LineItem) → IsAccepted w some item → IsAccepted w other item
accepted_there w some other same none item h =
    none item h.stamp h.stamp_is
    (same item h.stamp h.stamp_is (contains_from_in some item (in_middle h.before h.after some item h.place)))

-- so the same is received
pub heard_there : (w : ℕ) (some other : List LineItem) → SameItems some other → NoneLate w some
    → NoneLate w other → (part : Part)
    → IsPartReceived w some part ↔ IsPartReceived w other part
heard_there w some other same first second part = (
  λ h. part_keeps w some other (accepted_there w some other (λ item s is there. (same item s is).0 there) second) part h,
  λ h. part_keeps w other some (accepted_there w other some (λ item s is there. (same item s is).1 there) first) part h,
)

-- the parts in the log of some items are those received in them
abbrev pub TakesReceived : Type 0
TakesReceived = (w number : ℕ) (items : List LineItem) (part : Part)
    → Contains (parts_in (log_from w nothing_known number items)) part ↔ IsPartReceived w items part

pub taken_there : (taken : TakesReceived) (w m n : ℕ) (some other : List LineItem)
    → SameItems some other → NoneLate w some → NoneLate w other
    → (part : Part)
    → Contains (parts_in (log_from w nothing_known m some)) part ↔ Contains (parts_in (log_from w nothing_known n other)) part
taken_there taken w m n some other same first second part =
    let there = heard_there w some other same first second part in (
      λ h. (taken w n other part).1 (there.0 ((taken w m some part).0 h)),
      λ h. (taken w m some part).1 (there.1 ((taken w n other part).0 h)),
    )

-- the periods of the log are those of what is received
pub periods_received : (taken : TakesReceived) (r w number : ℕ) (items : List LineItem)
    → ArePeriods r w (Contains (parts_in (log_from w nothing_known number items))) (periods_of r w (parts_in (log_from w nothing_known number items)))
    → ArePeriods r w (IsPartReceived w items) (periods_of r w (parts_in (log_from w nothing_known number items)))
periods_received taken r w number items h =
    let parts = parts_in (log_from w nothing_known number items) in
    ArePeriods-same r w (Contains parts) (IsPartReceived w items) (periods_of r w parts)
    (record { to = λ p. (taken w number items p).0; from = λ p. (taken w number items p).1 })
    h

-- and so are those that are closed
pub closed_heard : (r w watermark number : ℕ) (items : List LineItem)
    → ArePeriods r w (IsPartReceived w items) (periods_of r w (parts_in (log_from w nothing_known number items)))
    → AreClosed r w (IsPartReceived w items) watermark (closed_of r w watermark (parts_in (log_from w nothing_known number items)))
unfolding closed_of
closed_heard r w watermark number items h =
    closed_at-are r w (IsPartReceived w items) watermark (periods_of r w (parts_in (log_from w nothing_known number items))) h
