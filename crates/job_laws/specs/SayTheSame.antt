-- Captures with the same output.
use Rattle.std.specs.Prelude.{◌≡◌}
use Rattle.capture_log.specs.Received.{NoneLate, SameItems}
use Rattle.capture_log.specs.Log.{line_items_of}
use Rattle.captures.specs.Captures.{Capture}
use Rattle.captures.specs.declared.target.CaptureTo.{CaptureTo}
use Rattle.captures.specs.declared.target.CaptureTo.TheVariants as captures

-- two captures of one week and one window whose lines have the same items, in any order, however spelled and repeated or not, none
-- of them late
pub record SayTheSame (c d : Capture) : Type 0 where
  pub week : c.week ≡ d.week
  pub window : c.window ≡ d.window
  pub same : SameItems (line_items_of c.lines) (line_items_of d.lines)
  pub timely : NoneLate c.window (line_items_of c.lines)
  pub other_timely : NoneLate d.window (line_items_of d.lines)

-- the output is that of the periods; counts are not, as they count repeated lines
abbrev pub IsOfPeriods : CaptureTo → Type 0
IsOfPeriods (captures.Rinex header) = Unit {0}
IsOfPeriods (captures.Rinex3 header) = Unit {0}
IsOfPeriods captures.Rtcm = Unit {0}
IsOfPeriods captures.ToList = Unit {0}
IsOfPeriods captures.Count = ⊥
