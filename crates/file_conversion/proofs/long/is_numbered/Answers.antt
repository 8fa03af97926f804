use Rattle.std.proofs.Common.{refl}
use Rattle.file_conversion.proofs.long.is_numbered.Goals as goal

pub returns : goal.returns
returns c = refl
