use Rattle.std.proofs.lemmas.List.Elements.{All-contains}
use Rattle.nav_eph.specs.Values.{IsPartValue}
use Rattle.periods.proofs.Surface.{ArePeriods-one, AreClosed-one}
use Rattle.capture_log.specs.Received.{IsPartReceived}
use Rattle.capture_log.specs.Log.{line_items_of, watermark_after, parts_of}
use Rattle.capture_log.proofs.AnyOrder.{closed_heard}
use Rattle.capture_log.proofs.laws.lines_yield_what_is_received.Goals as goal

pub returns-clause-parts : goal.returns-clause-parts
returns-clause-parts c window lines part = c.taken_parts_are_received.ensures window 2 (line_items_of lines) part

pub returns-clause-values : goal.returns-clause-values
returns-clause-values c window lines part h =
    All-contains IsPartValue (parts_of window lines) part (c.parts_of_lines_are_values.ensures window lines)
    ((c.taken_parts_are_received.ensures window 2 (line_items_of lines) part).1 h)

pub returns-clause-periods : goal.returns-clause-periods
returns-clause-periods c r window lines =
    c.periods_are_those_received.ensures r window 2 (line_items_of lines) (c.parts_of_lines_are_values.ensures window lines)

pub returns-clause-closed : goal.returns-clause-closed
returns-clause-closed c r window lines =
    closed_heard r window (watermark_after window lines) 2 (line_items_of lines)
    (c.periods_are_those_received.ensures r window 2 (line_items_of lines) (c.parts_of_lines_are_values.ensures window lines))

pub returns-clause-only : goal.returns-clause-only
returns-clause-only c = λ r window lines some other first second.
    ArePeriods-one r window (IsPartReceived window (line_items_of lines)) some other
    (λ part h. All-contains IsPartValue (parts_of window lines) part (c.parts_of_lines_are_values.ensures window lines)
    ((c.taken_parts_are_received.ensures window 2 (line_items_of lines) part).1 h))
    first second

pub returns-clause-only_closed : goal.returns-clause-only_closed
returns-clause-only_closed c = λ r window watermark lines some other first second.
    AreClosed-one r window (IsPartReceived window (line_items_of lines)) watermark some other
    (λ part h. All-contains IsPartValue (parts_of window lines) part (c.parts_of_lines_are_values.ensures window lines)
    ((c.taken_parts_are_received.ensures window 2 (line_items_of lines) part).1 h))
    first second
