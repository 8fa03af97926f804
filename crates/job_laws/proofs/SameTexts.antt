-- Two captures that say the same have the same periods, and so the same is written of them.
use Rattle.std.proofs.Common.{◌≡◌, ℕ, ◌↔◌, List, [], ◌++◌, Contains, sym, ap, subst, ◌∙◌}
use Rattle.std.specs.Prelude.{Option, Some}
use Rattle.nav_io.specs.Lines.{Line}
use Rattle.capture_lines.specs.declared.item.LineItem.{LineItem}
use Rattle.periods.specs.PeriodsOf.{periods_of}
use Rattle.periods.specs.declared.closed.Closed.{Closed}
use Rattle.capture_log.specs.Events.{item_line}
use Rattle.capture_log.specs.Received.{NoneLate, SameItems}
use Rattle.capture_log.specs.Log.{line_items_of, parts_of}
use Rattle.capture_log.proofs.Surface.{contains_from_in, in_from_contains, in_map, map_in}
use Rattle.streams.specs.Targets.{prefix_text}
use Rattle.captures.specs.Captures.{Capture, capture_of, output_of, periods, target_of, texts_of}
use Rattle.captures.specs.Captures.{whole_text}
use Rattle.captures.specs.declared.target.CaptureTo.{CaptureTo}
use Rattle.captures.specs.declared.target.CaptureTo.TheVariants.{Rinex, Rinex3, Rtcm, ToList, Count}
use Rattle.job_laws.specs.SayTheSame.{IsOfPeriods, SayTheSame}

-- the same lines have the same items
items_from : (some other : List Line) → ((line : Line) → Contains some line → Contains other line) → (item : LineItem)
    → Contains (line_items_of some) item → Contains (line_items_of other) item
items_from some other to item h =
    let line = in_map item_line some item (in_from_contains (line_items_of some) item h) in
    let there = map_in item_line other line.0 (in_from_contains other line.0 (to line.0 (contains_from_in some line.0 line.1))) in
    subst (Contains (line_items_of other)) line.2 (contains_from_in (line_items_of other) (item_line line.0) there)

pub same_items : (some other : List Line) → ((line : Line) → Contains some line ↔ Contains other line)
    → SameItems (line_items_of some) (line_items_of other)
same_items some other same item s stamp =
    (items_from some other (λ line. (same line).0) item, items_from other some (λ line. (same line).1) item)

-- the text of periods depends on nothing else
by_periods : (to : CaptureTo) (c d : Capture) → IsOfPeriods to → periods c ≡ periods d
    → whole_text (target_of to) (Some c) ≡ whole_text (target_of to) (Some d)
by_periods (Rinex h) c d is e =
    ap (λ (cs : List Closed). prefix_text (target_of (Rinex h)) ++ (texts_of (target_of (Rinex h)) cs ++ [])) e
by_periods (Rinex3 h) c d is e =
    ap (λ (cs : List Closed). prefix_text (target_of (Rinex3 h)) ++ (texts_of (target_of (Rinex3 h)) cs ++ [])) e
by_periods Rtcm c d is e = ap (λ (cs : List Closed). prefix_text (target_of Rtcm) ++ (texts_of (target_of Rtcm) cs ++ [])) e
by_periods ToList c d is e = ap (λ (cs : List Closed). prefix_text (target_of ToList) ++ (texts_of (target_of ToList) cs ++ [])) e
by_periods Count c d is e = absurd is

module _ (law : (r window : ℕ) (some other : List Line) → SameItems (line_items_of some) (line_items_of other)
    → NoneLate window (line_items_of some) → NoneLate window (line_items_of other)
    → periods_of r window (parts_of window some) ≡ periods_of r window (parts_of window other)) where
  same_periods : (c d : Capture) → SayTheSame c d → periods c ≡ periods d
  same_periods c d say =
      law c.week c.window c.lines d.lines say.same say.timely
      (subst (λ (w : ℕ). NoneLate w (line_items_of d.lines)) (sym say.window) say.other_timely)
      ∙ (λ i. periods_of (say.week i) (say.window i) (parts_of (say.window i) d.lines))

  pub same_output : (to : CaptureTo) (week named : Option ℕ) (bytes other : List ℕ) (c d : Capture) → IsOfPeriods to
      → capture_of week bytes ≡ Some c → capture_of named other ≡ Some d → SayTheSame c d
      → output_of (target_of to) week bytes ≡ output_of (target_of to) named other
  unfolding output_of
  same_output to week named bytes other c d is first second say =
      ap (whole_text (target_of to)) first ∙ by_periods to c d is (same_periods c d say)
      ∙ ap (whole_text (target_of to)) (sym second)
