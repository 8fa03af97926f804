use Rattle.framing.proofs.HeadingLaws.{heading_is_format}
use Rattle.framing.proofs.message_laws.headings_are_formats.Goals as goal

pub returns : goal.returns
returns c = heading_is_format
