use Rattle.std.proofs.Common.{refl}
use Rattle.whole_file.proofs.kinds.begins_length.Goals as goal

pub returns : goal.returns
returns c = refl
