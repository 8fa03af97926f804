use Rattle.std.proofs.Common.{rules}
use Rattle.file_conversion.proofs.stops.stopped_by.Goals as goal

pub returns-in-Err-Publish : goal.returns-in-Err-Publish
returns-in-Err-Publish c = search rules
