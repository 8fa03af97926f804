use Rattle.capture_log.specs.Events.{nothing_known}
use Rattle.capture_log.specs.Log.{log_from, parts_in}
use Rattle.capture_log.proofs.AnyOrder.{periods_received}
use Rattle.capture_log.proofs.laws.periods_are_those_received.Goals as goal

pub returns : goal.returns
returns c r window number items values =
    periods_received c.taken_parts_are_received.ensures r window number items
    (c.periods_are.ensures.are r window (parts_in (log_from window nothing_known number items)) values)
