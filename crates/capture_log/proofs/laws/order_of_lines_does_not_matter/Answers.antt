use Rattle.capture_log.specs.Log.{line_items_of}
use Rattle.capture_log.proofs.laws.order_of_lines_does_not_matter.Goals as goal

pub returns-clause-periods : goal.returns-clause-periods
returns-clause-periods c r window some other same first second =
    c.order_of_items_does_not_matter.ensures.periods r window 2 2 (line_items_of some) (line_items_of other) same first second
    (c.parts_of_lines_are_values.ensures window some)

pub returns-clause-items : goal.returns-clause-items
returns-clause-items c r window some other same first second =
    c.order_of_items_does_not_matter.ensures.items r window 2 2 (line_items_of some) (line_items_of other) same first second
    (c.parts_of_lines_are_values.ensures window some)
