use Rattle.std.proofs.Common.{◌≡◌, ◌+◌, ◌*◌, ◌≤◌, ◌++◌, true, length, drop}
use Rattle.arrayvec.specs.ArrayVec.{array_vec_len}
use Rattle.rinex_lines.specs.CarriedLines.{lines_text}
use Rattle.rinex_lines.proofs.record.append_lines.Given as goal

abbrev pub invariant-loop-line : goal.invariant-loop-line
invariant-loop-line l =
    (l.text.items ++ lines_text l.first (drop l.line-index l.lines) ≡ l.initial.text.items ++ lines_text true l.lines)
    × (array_vec_len l.text + 81 * length (drop l.line-index l.lines) ≤ 1458)
