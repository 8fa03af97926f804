use Rattle.std.proofs.Common.{take}
use Rattle.sent_captures.specs.Mirrors.{GrowsByLines}
use Rattle.sent_captures.proofs.seed_lines.push_lines.Given as goal

abbrev pub invariant-lines : goal.invariant-lines
invariant-lines l = GrowsByLines l.senders.seed l.senders.sats l.senders.week (take l.sending-index l.order) l.initial.text.items l.text.items
