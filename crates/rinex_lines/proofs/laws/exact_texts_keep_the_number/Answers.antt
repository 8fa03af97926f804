use Rattle.rinex_lines.proofs.PartsLemmas.{text_kept, text_columns}
use Rattle.rinex_lines.proofs.laws.exact_texts_keep_the_number.Goals as goal

pub returns-clause-number : goal.returns-clause-number
returns-clause-number c = λ d text small is.
    let kept = text_kept d text small is in (kept.decimal, kept.read, kept.equal, kept.sign)

pub returns-clause-columns : goal.returns-clause-columns
returns-clause-columns c = text_columns
