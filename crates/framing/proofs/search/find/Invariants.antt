use Rattle.std.proofs.Common.{◌≡◌, ◌≤◌, ◌-◌, length, drop}
use Rattle.framing.specs.Headings.{format_of}
use Rattle.framing.specs.MessageMirrors.{from_first}
use Rattle.framing.proofs.search.find.Given as goal

abbrev pub invariant-loop-place : goal.invariant-loop-place
invariant-loop-place g l = record {
  inside : l.place ≤ length l.bytes;
  passed : from_first (format_of g.J.Judge.heading) l.more (drop l.place l.bytes)
      ≡ from_first (format_of g.J.Judge.heading) l.more (drop l.fn.start l.bytes);
  beside : g.J.Judge.IsBeside l.judge l.bytes;
}

abbrev pub decreases-loop-place : goal.decreases-loop-place
decreases-loop-place g l = length l.bytes - l.place
