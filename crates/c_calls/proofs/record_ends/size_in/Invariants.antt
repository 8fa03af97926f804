use Rattle.std.proofs.Common.{◌≤◌, ◌-◌, length, take}
use Rattle.rinex_read.specs.Lines.{lines_of}
use Rattle.c_calls.specs.RecordEnds.{AreOfOne}
use Rattle.c_calls.proofs.RecordCuts.{AreWhole}
use Rattle.c_calls.proofs.record_ends.size_in.Given as goal

-- the lines before `at` are whole, and no line of them after the first begins a record
abbrev pub invariant-lines : goal.invariant-lines
invariant-lines g l = record {
  within : l.at ≤ length l.text;
  whole : AreWhole (take l.at l.text);
  one : AreOfOne (g.F.FileForm.form l.form) (lines_of (take l.at l.text));
}

abbrev pub decreases-lines : goal.decreases-lines
decreases-lines g l = length l.text - l.at
