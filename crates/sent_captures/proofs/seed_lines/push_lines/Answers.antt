use Rattle.std.proofs.Common.{◌++◌, ◌∙◌, ap}
use Rattle.sent_captures.specs.declared.sending.Sending.TheVariants.{Subframe}
use Rattle.sent_captures.proofs.Joined.{grows_more}
use Rattle.sent_captures.proofs.seed_lines.push_lines.Goals as goal

pub lines-preserved : goal.lines-preserved
lines-preserved c =
    grows_more c.args.senders.now.seed c.args.senders.now.sats c.args.senders.now.week c.args.order.now c.lines.sending-index (Subframe 0 0)
    c.args.text.now.items c.lines.text.items c.write_line.new.line.items c.extend_from_slice.new.self.items
    c.lines-test.true c.lines.invariant c.write_line.ensures
    (c.in_ok-extend_from_slice.ensures.items ∙ ap (λ t. c.lines.text.items ++ t) c.as_slice.ensures.value)
