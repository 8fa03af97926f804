use Rattle.std.proofs.Common.{refl}
use Rattle.scaled_decimal.specs.NumberText.{digits}
use Rattle.rinex_write.specs.Texts.{date_text}
use Rattle.rinex_write.proofs.record.date_columns.Goals as goal

pub returns : goal.returns
unfolding date_text digits
returns c =
    rw (c.four_digits.ensures, c.two_digits.ensures, c.two_digits-2.ensures, c.two_digits-3.ensures, c.two_digits-4.ensures, c.two_digits-5.ensures) refl
