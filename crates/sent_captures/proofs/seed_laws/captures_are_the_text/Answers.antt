use Rattle.sent_captures.proofs.TextIs.{is_capture, text_is}
use Rattle.sent_captures.proofs.seed_laws.captures_are_the_text.Goals as goal

pub returns-clause-capture : goal.returns-clause-capture
returns-clause-capture c = is_capture

pub returns-clause-only : goal.returns-clause-only
returns-clause-only c = text_is
