use Rattle.scaled_decimal.proofs.TextLemmas.{text_seen}
use Rattle.scaled_decimal.proofs.ColumnLemmas.{length-number_text, AreShown-number_text, number_text_ends}
use Rattle.scaled_decimal.proofs.laws.texts_are_read.Goals as goal

pub returns-clause-read : goal.returns-clause-read
returns-clause-read c = text_seen

pub returns-clause-columns : goal.returns-clause-columns
returns-clause-columns c = length-number_text

pub returns-clause-shown : goal.returns-clause-shown
returns-clause-shown c = AreShown-number_text

pub returns-clause-ends : goal.returns-clause-ends
returns-clause-ends c = number_text_ends
