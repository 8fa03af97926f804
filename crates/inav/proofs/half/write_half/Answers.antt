use Rattle.std.proofs.Common.{sym, ap, ◌∙◌}
use Rattle.inav.specs.Pages.{bits_at}
use Rattle.inav.proofs.PageNumbers.{type_of_number}
use Rattle.inav.proofs.half.write_half.Goals as goal

pub returns-clause-nominal : goal.returns-clause-nominal
returns-clause-nominal c =
    sym (type_of_number c.bits.result.now) ∙ ap (λ n. bits_at n 1 1) c.bits.ensures.number ∙ c.bits.ensures.form.nominal
