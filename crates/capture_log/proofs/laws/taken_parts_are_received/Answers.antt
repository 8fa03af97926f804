use Rattle.capture_log.proofs.AllItems.{parts_received}
use Rattle.capture_log.proofs.laws.taken_parts_are_received.Goals as goal

pub returns : goal.returns
returns c window number items part =
    parts_received
    (record {
      among = c.halves_are_decided.ensures.among;
      words = c.words_are_the_function.ensures;
      late = c.late_is_behind_the_greatest_stamp.ensures;
    })
    window part number items
