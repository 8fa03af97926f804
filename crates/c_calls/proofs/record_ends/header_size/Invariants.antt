use Rattle.std.proofs.Common.{◌≡◌, ◌≤◌, ◌-◌, ℕ, length, take}
use Rattle.std.specs.Prelude.{Err}
use Rattle.rinex_read.specs.Files.{header_passed}
use Rattle.rinex_read.specs.Lines.{lines_of}
use Rattle.rinex_read.specs.declared.judged.HeaderFault.TheVariants.{NotRinexNav}
use Rattle.c_calls.proofs.RecordCuts.{AreWhole}
use Rattle.c_calls.proofs.record_ends.header_size.Given as goal

-- the lines before `at` are whole, and none of them ends a header
abbrev pub invariant-lines : goal.invariant-lines
invariant-lines l = record {
  within : l.at ≤ length l.text;
  whole : AreWhole (take l.at l.text);
  open_so_far : (number : ℕ) → header_passed number (lines_of (take l.at l.text)) ≡ Err NotRinexNav;
}

abbrev pub decreases-lines : goal.decreases-lines
decreases-lines l = length l.text - l.at
