use Rattle.rinex_write.proofs.WrittenLemmas.{title_and_body, title_begins, body_untitled, item_shown, body_shown}
use Rattle.rinex_write.proofs.laws.records_are_a_title_and_a_body.Goals as goal

pub returns-clause-lines : goal.returns-clause-lines
returns-clause-lines c = title_and_body

pub returns-clause-title : goal.returns-clause-title
returns-clause-title c = title_begins

pub returns-clause-body : goal.returns-clause-body
returns-clause-body c = body_untitled

pub returns-clause-shown : goal.returns-clause-shown
returns-clause-shown c = item_shown

pub returns-clause-body_shown : goal.returns-clause-body_shown
returns-clause-body_shown c = body_shown
