use Rattle.std.proofs.Common.{◌≡◌, ◌≤◌, ◌-◌, length}
use Rattle.std.specs.Io.KnownBytes.{Consumes, Keeps, prepend_known}
use Rattle.std.specs.Prelude.{drop}
use Rattle.whole_file.specs.Units.{IsPast}
use Rattle.whole_file.proofs.looking.look.Given as goal

-- what was taken was looked at, no byte is lost, and no unit begins before the place
abbrev pub invariant-loop-input : goal.invariant-loop-input
invariant-loop-input g l = record {
  takes : Consumes (g.S.Source.left l.fn.input.source) (g.S.Source.left l.input.source) l.input.prefix.items;
  few : length l.input.prefix.items ≤ 65536;
  within : l.place ≤ length l.input.prefix.items;
  past : IsPast l.input.prefix.items l.place;
  faults : g.S.Source.faults l.input.source ≡ g.S.Source.faults l.fn.input.source;
  left : Keeps (prepend_known (drop l.fn.input.place l.fn.input.prefix.items) (g.S.Source.left l.fn.input.source))
      (prepend_known (drop l.input.place l.input.prefix.items) (g.S.Source.left l.input.source));
}

abbrev pub decreases-loop-input : goal.decreases-loop-input
decreases-loop-input g l = 65536 - length l.input.prefix.items
