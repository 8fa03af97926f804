use Rattle.std.proofs.Common.{refl}
use Rattle.whole_file.proofs.fault_counts.Faults.none.Goals as goal

pub returns : goal.returns
returns c = refl
