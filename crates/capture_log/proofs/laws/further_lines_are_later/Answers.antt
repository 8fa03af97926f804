use Rattle.capture_log.proofs.Lasting.{later_of, parts_append, later_from_watermark}
use Rattle.capture_log.proofs.laws.further_lines_are_later.Goals as goal

pub returns : goal.returns
returns c window lines more = (
  later_of window lines more,
  parts_append window lines more,
  later_from_watermark
      (record {
        subframes = λ bits sat stamp p any e. c.subframe_parts.ensures.stamp bits sat stamp p e;
        words = λ bits sat stamp ps any e. c.word_parts.ensures.stamps bits sat stamp ps e;
        messages = λ payload stamp ps any e. c.message_parts.ensures.stamps payload stamp ps e;
      })
      window lines more,
)
