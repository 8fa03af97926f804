use Rattle.std.proofs.Common.{◌≡◌, ℕ, ◌+◌, List, [], ◌++◌, ap, sym, ◌∙◌, append_assoc, append-nil}
use Rattle.inav.specs.Pages.{even_of, odd_of}
use Rattle.sent_captures.specs.Slots.{half_item, text_of_item}
use Rattle.sent_captures.proofs.lines.push_page.Goals as goal

two_lines : (old first second a b middle new : List ℕ) → a ≡ first → b ≡ second → middle ≡ old ++ a → new ≡ middle ++ b
    → new ≡ old ++ (first ++ (second ++ []))
two_lines old first second a b middle new is_first is_second x y =
    y ∙ ap (λ m. m ++ b) x ∙ append_assoc old a b ∙ ap (λ t. old ++ (t ++ b)) is_first ∙ ap (λ t. old ++ (first ++ t)) (is_second ∙ sym (append-nil second))

pub returns-clause-text : goal.returns-clause-text
returns-clause-text c =
    two_lines c.args.text.now.items
    (text_of_item (half_item c.args.stamp c.args.sat (even_of c.args.word.now)))
    (text_of_item (half_item (c.args.stamp + 1) c.args.sat (odd_of c.args.word.now)))
    (text_of_item (half_item c.args.stamp c.args.sat c.split-even.result.0))
    (text_of_item (half_item (c.args.stamp + 1) c.args.sat c.split-even.result.1))
    c.push_half.new.text.items c.push_half-2.new.text.items
    (ap (λ h. text_of_item (half_item c.args.stamp c.args.sat h)) c.split-even.ensures.halves.0)
    (ap (λ h. text_of_item (half_item (c.args.stamp + 1) c.args.sat h)) c.split-even.ensures.halves.1)
    c.push_half.ensures.text c.push_half-2.ensures.text
