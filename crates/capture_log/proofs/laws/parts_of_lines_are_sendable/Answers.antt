use Rattle.capture_log.proofs.Sendable.{lines_sendable}
use Rattle.capture_log.proofs.laws.parts_of_lines_are_sendable.Goals as goal

pub returns : goal.returns
returns c window lines =
    lines_sendable
    (record {
      subframes = c.subframe_parts.ensures.sendable;
      words = c.word_parts.ensures.sendable;
      messages = c.message_parts.ensures.sendable;
    })
    c.each_line_stands_for_one_thing.ensures.some
    window lines
