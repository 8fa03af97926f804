use Rattle.std.proofs.Common.{ap}
use Rattle.periods.specs.PeriodLists.{items_in}
use Rattle.capture_log.specs.Events.{nothing_known}
use Rattle.capture_log.specs.Log.{log_from, parts_in}
use Rattle.capture_log.proofs.AnyOrder.{taken_there}
use Rattle.capture_log.proofs.laws.order_of_items_does_not_matter.Goals as goal

pub returns-clause-periods : goal.returns-clause-periods
returns-clause-periods c r window m n some other same first second values =
    c.order_does_not_matter.ensures r window (parts_in (log_from window nothing_known m some)) (parts_in (log_from window nothing_known n other)) values
    (taken_there c.taken_parts_are_received.ensures window m n some other same first second)

pub returns-clause-items : goal.returns-clause-items
returns-clause-items c r window m n some other same first second values =
    ap items_in
    (c.order_does_not_matter.ensures r window (parts_in (log_from window nothing_known m some)) (parts_in (log_from window nothing_known n other)) values
    (taken_there c.taken_parts_are_received.ensures window m n some other same first second))
