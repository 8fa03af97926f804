use Rattle.rinex_write.proofs.WrittenLemmas.{length-header, header_untitled, header_shown}
use Rattle.rinex_write.proofs.laws.headers_are_lines.Goals as goal

pub returns-clause-four : goal.returns-clause-four
returns-clause-four c = length-header

pub returns-clause-untitled : goal.returns-clause-untitled
returns-clause-untitled c = header_untitled

pub returns-clause-shown : goal.returns-clause-shown
returns-clause-shown c = header_shown
