use Rattle.std.proofs.Common.{ap, sym, ◌∙◌}
use Rattle.sent_captures.specs.Slots.{items_at, text_of_items}
use Rattle.sent_captures.proofs.slot.slot_lines.Goals as goal

pub returns-in-Gal : goal.returns-in-Gal
returns-in-Gal c = c.push_galileo.ensures ∙ ap (λ item. text_of_items (items_at c.args.stamp item)) (sym c.in-Gal.is)
