use Rattle.std.proofs.Common.{◌+◌, length, ap, ◌∙◌}
use Rattle.sent_captures.specs.Slots.{text_of_items}
use Rattle.sent_captures.specs.Sendable.{slots_items}
use Rattle.sent_captures.proofs.Texts.{sendable_append, slots_append, texts_append}
use Rattle.sent_captures.proofs.laws.sent_text_goes_on.Goals as goal

pub returns : goal.returns
returns c = record {
  items = λ r slot some more. sendable_append r slot some more;
  text = λ slot some more. ap text_of_items (slots_append slot some more) ∙ texts_append (slots_items slot some) (slots_items (slot + length some) more);
}
