use Rattle.capture_log.proofs.Lasting.{Lasts, closed_later, closed_rise, closed_prefix}
use Rattle.capture_log.proofs.laws.what_is_closed_stays.Goals as goal

pub returns : goal.returns
returns c =
    let laws : Lasts = record {
      values = c.parts_of_lines_are_values.ensures;
      further = c.further_lines_are_later.ensures;
      later = c.closed_stays.ensures.later;
      rise = c.closed_stays.ensures.rise;
      prefix = c.closed_stays.ensures.prefix;
    } in
    record {
      later = λ r window lines more. closed_later laws r window lines more;
      rise = λ r window lines more. closed_rise laws r window lines more;
      prefix = λ r window lines more. closed_prefix laws r window lines more;
    }
