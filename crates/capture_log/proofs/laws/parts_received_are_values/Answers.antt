use Rattle.capture_log.specs.Events.{nothing_known}
use Rattle.capture_log.specs.Log.{log_from, parts_in}
use Rattle.nav_eph.specs.Values.{IsPartValue}
use Rattle.capture_log.proofs.Lists.{all_in, contains_from_in}
use Rattle.capture_log.proofs.ReceivedValues.{heard_value}
use Rattle.capture_log.proofs.laws.parts_received_are_values.Goals as goal

pub returns : goal.returns
returns c window number items fit =
    let parts = parts_in (log_from window nothing_known number items) in
    all_in IsPartValue parts
    (λ part here. heard_value
    (record {
      subframes = λ bits sat stamp p fits e. c.subframe_parts.ensures.value bits sat stamp p fits e;
      words = λ bits sat stamp ps fits e. c.word_parts.ensures.values bits sat stamp ps fits e;
      messages = λ payload stamp ps fits e. c.message_parts.ensures.values payload stamp ps fits e;
    })
    window items fit part
    ((c.taken_parts_are_received.ensures window number items part).0 (contains_from_in parts part here)))
