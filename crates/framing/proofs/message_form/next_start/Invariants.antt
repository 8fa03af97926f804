use Rattle.std.proofs.Common.{◌≡◌, ◌≤◌, ◌-◌, Bool, length, drop}
use Rattle.framing.specs.Headings.{format_of}
use Rattle.framing.specs.MessageMirrors.{from_first}
use Rattle.framing.proofs.message_form.next_start.Given as goal

abbrev pub invariant-loop-place : goal.invariant-loop-place
invariant-loop-place g l = record {
  onward : l.fn.from ≤ l.place;
  inside : l.place ≤ length l.bytes;
  passed : (more : Bool) → from_first (format_of g.J.Judge.heading) more (drop l.place l.bytes)
      ≡ from_first (format_of g.J.Judge.heading) more (drop l.fn.from l.bytes);
}

abbrev pub decreases-loop-place : goal.decreases-loop-place
decreases-loop-place g l = length l.bytes - l.place
