use Rattle.capture_log.specs.Log.{line_items_of}
use Rattle.capture_log.proofs.Lasting.{lines_fit}
use Rattle.capture_log.proofs.laws.parts_of_lines_are_values.Goals as goal

pub returns : goal.returns
returns c window lines = c.parts_received_are_values.ensures window 2 (line_items_of lines) (lines_fit c.stamps_have_32_bits.ensures lines)
