use Rattle.sent_captures.proofs.Short.{capture_short, text_short}
use Rattle.sent_captures.proofs.seed_laws.captures_are_short.Goals as goal

pub returns-clause-captures : goal.returns-clause-captures
returns-clause-captures c = capture_short

pub returns-clause-function : goal.returns-clause-function
returns-clause-function c = text_short
