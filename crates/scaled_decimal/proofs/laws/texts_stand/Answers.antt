use Rattle.scaled_decimal.specs.ScaleValue.{size_of}
use Rattle.scaled_decimal.specs.NumberText.{number_text}
use Rattle.scaled_decimal.proofs.FarLemmas.{is_scale}
use Rattle.scaled_decimal.proofs.TextLemmas.{text_stands, one_number}
use Rattle.scaled_decimal.proofs.laws.texts_stand.Goals as goal

pub returns-clause-for_it : goal.returns-clause-for_it
returns-clause-for_it c = λ s z within small. text_stands (size_of s) z (is_scale s within) small

pub returns-clause-for_no_other : goal.returns-clause-for_no_other
returns-clause-for_no_other c = λ s y z within small other.
    let scale = is_scale s within in
    one_number (size_of s) (number_text (size_of s) z) y z scale.some other (text_stands (size_of s) z scale small)
