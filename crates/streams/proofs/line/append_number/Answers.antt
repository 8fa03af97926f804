use Rattle.std.proofs.Common.{ℕ, List, ◌++◌, sym, ap, ◌∙◌}
use Rattle.streams.proofs.Numbers.{number_text-many, number_text-few}
use Rattle.streams.proofs.line.append_number.Goals as goal

pub returns-in_default-clause-items : goal.returns-in_default-clause-items
returns-in_default-clause-items c =
    c.append.ensures.items ∙ ap (λ (l : List ℕ). c.args.line.now.items ++ l) (sym (number_text-few _ c.in_default.len_below))

pub returns-in-len2-up-clause-items : goal.returns-in-len2-up-clause-items
returns-in-len2-up-clause-items c =
    c.append_decimal.ensures.items ∙ ap (λ (l : List ℕ). c.args.line.now.items ++ l) (sym (number_text-many _ c.in-len2-up.len_at_least))
