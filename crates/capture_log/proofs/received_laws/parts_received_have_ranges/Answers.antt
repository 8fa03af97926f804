use Rattle.capture_log.proofs.ReceivedRanges.{heard_ranges}
use Rattle.capture_log.proofs.received_laws.parts_received_have_ranges.Goals as goal

pub returns : goal.returns
returns c = λ window lines part h.
    heard_ranges
    (record {
      subframes = c.subframe_parts.ensures.ranges;
      subframe_sats = c.subframe_parts.ensures.satellite;
      words = c.word_parts.ensures.ranges;
      word_sats = c.word_parts.ensures.satellites;
      messages = c.message_parts.ensures.ranges;
    })
    c.each_line_stands_for_one_thing.ensures.some
    window lines part h
