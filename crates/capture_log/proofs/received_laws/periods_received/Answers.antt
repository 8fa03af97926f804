use Rattle.std.proofs.Common.{Contains}
use Rattle.nav_eph.specs.Ranges.{IsItem}
use Rattle.nav_eph.specs.Values.{HasPartRanges}
use Rattle.periods.specs.PeriodLists.{items_in}
use Rattle.periods.proofs.Surface.{IsClosed-same}
use Rattle.capture_log.specs.Received.{IsPartReceived}
use Rattle.capture_log.specs.Log.{line_items_of, parts_of}
use Rattle.capture_log.proofs.ReceivedItems.{items_of_whole}
use Rattle.capture_log.proofs.Lists.{all_in, contains_from_in}
use Rattle.capture_log.proofs.received_laws.periods_received.Goals as goal

pub returns-clause-some : goal.returns-clause-some
returns-clause-some c = c.lines_yield_what_is_received.ensures.periods

pub returns-clause-only : goal.returns-clause-only
returns-clause-only c = c.lines_yield_what_is_received.ensures.only

pub returns-clause-items : goal.returns-clause-items
returns-clause-items c = λ r window lines periods reference are.
    let parts = parts_of window lines in
    let heard = c.lines_yield_what_is_received.ensures.parts window lines in
    let ranges = all_in HasPartRanges parts
    (λ part here. c.parts_received_have_ranges.ensures window lines part ((heard part).0 (contains_from_in parts part here))) in
    all_in IsItem (items_in periods)
    (λ item there. items_of_whole IsItem periods
    (λ closed own here whole.
    c.items_fit_together.ensures r window parts closed own reference (c.parts_of_lines_are_values.ensures window lines)
    (c.parts_of_lines_are_sendable.ensures window lines) ranges
    (IsClosed-same r window (IsPartReceived window (line_items_of lines)) (Contains parts) closed
    (record { to = λ p. (heard p).1; from = λ p. (heard p).0 }) (are.each closed (contains_from_in periods closed here)))
    whole)
    item there)
