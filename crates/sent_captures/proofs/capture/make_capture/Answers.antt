use Rattle.std.proofs.Common.{All, rules, sym, ◌∙◌, subst}
use Rattle.sent_captures.specs.Mirrors.{IsOf}
use Rattle.sent_captures.proofs.Orders.{lines_are_of}
use Rattle.sent_captures.proofs.TextIs.{text_is}
use Rattle.sent_captures.proofs.capture.make_capture.Goals as goal

pub push_lines-requires-clause-of : goal.push_lines-requires-clause-of
push_lines-requires-clause-of c =
    subst (λ n. All (IsOf n) c.as_slice.result.now) (sym c.in_ok-senders.ensures.sats)
    (subst (All (IsOf c.value-count.result)) (sym (c.as_slice.ensures.value ∙ c.in_ok-order.ensures)) (lines_are_of c.value-count.result))

pub returns-clause-capture : goal.returns-clause-capture
returns-clause-capture c = search rules

pub returns-clause-text : goal.returns-clause-text
returns-clause-text c = text_is c.args.seed c.args.sats c.args.r c.push_lines.new.text.items (returns-clause-capture c)
