use Rattle.std.proofs.Common.{ap, sym, ◌∙◌}
use Rattle.nav_files.specs.Differences.{difference_text, numbers_text}
use Rattle.nav_files.proofs.WriteLemmas.{writes_as}
use Rattle.nav_files.proofs.texts.write_difference.Goals as goal

pub returns-in-OnlyFirst : goal.returns-in-OnlyFirst
returns-in-OnlyFirst g c =
    writes_as _ _ _ _ _ _ _ (c.as_slice.ensures.value ∙ c.only_line.ensures ∙ ap difference_text (sym c.in-OnlyFirst.is)) c.write.ensures.bytes c.write.ensures.cause

pub returns-in-OnlySecond : goal.returns-in-OnlySecond
returns-in-OnlySecond g c =
    writes_as _ _ _ _ _ _ _ (c.as_slice-in-OnlySecond.ensures.value ∙ c.only_line-in-OnlySecond.ensures ∙ ap difference_text (sym c.in-OnlySecond.is))
    c.write-in-OnlySecond.ensures.bytes c.write-in-OnlySecond.ensures.cause

pub returns-in-Both : goal.returns-in-Both
returns-in-Both g c =
    writes_as _ _ _ _ _ _ _ ((λ i. numbers_text ((c.as_slice-in-Both.ensures.value ∙ c.headed.ensures.items) i) (c.names.ensures i)
    ((c.as_slice-in-Both-2.ensures.value ∙ c.numbers.ensures) i) ((c.as_slice-in-Both-3.ensures.value ∙ c.numbers-in-Both.ensures) i))
    ∙ ap difference_text (sym c.in-Both.is)) c.write_numbers.ensures.bytes c.write_numbers.ensures.cause
