use Rattle.std.proofs.Common.{◌≡◌, drop, map, take}
use Rattle.rinex_read.specs.Kept.{padded}
use Rattle.rinex_read.specs.Lines.{lines_of}
use Rattle.c_calls.proofs.text_lines.lines_in.Given as goal

abbrev pub invariant-loop-count : goal.invariant-loop-count
invariant-loop-count l = record {
  kept : l.lines ≡ map padded (take l._count (lines_of l.text));
  left : lines_of l.rest ≡ drop l._count (lines_of l.text);
}
