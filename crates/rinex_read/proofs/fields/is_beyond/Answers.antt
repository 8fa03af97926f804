use Rattle.std.proofs.Common.{◌≡◌, not, Err, sym, ap, ◌∙◌}
use Rattle.scaled_decimal.specs.declared.reading.DecimalFault.TheVariants as faults
use Rattle.scaled_decimal.specs.ScaleValue.{size_of}
use Rattle.scaled_decimal.specs.NumberReading.{seen, trim_end, trim_start}
use Rattle.rinex_read.specs.Fields.{whole}
use Rattle.rinex_read.specs.Mirrors.{is_minus}
use Rattle.rinex_read.proofs.BeyondLemmas.{bounded, told, beyond_told}
use Rattle.rinex_read.proofs.fields.is_beyond.Goals as goal

pub returns-in-Err-OutOfRange : goal.returns-in-Err-OutOfRange
returns-in-Err-OutOfRange c =
    let text = c.args.text.now in
    let minus : c.is_minus.result ≡ is_minus (trim_end (trim_start text)) = c.is_minus.ensures ∙ ap is_minus c.trimmed.ensures.value in
    let out : bounded (seen (size_of whole) text) ≡ Err faults.OutOfRange = sym c.in-Err-OutOfRange.ensures ∙ ap Err c.in-Err-OutOfRange.field-0-is in
    ap not minus ∙ ap (λ r. told r (is_minus (trim_end (trim_start text)))) (sym out) ∙ beyond_told text
