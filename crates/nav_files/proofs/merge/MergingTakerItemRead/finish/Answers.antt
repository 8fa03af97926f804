use Rattle.std.proofs.Common.{ap}
use Rattle.std.specs.List.{flat_map}
use Rattle.streams.specs.ItemTexts.{rinex_item}
use Rattle.nav_files.proofs.KeptLemmas.{finish_as}
use Rattle.nav_files.proofs.merge.MergingTakerItemRead.finish.Goals as goal

pub returns-clause-output : goal.returns-clause-output
returns-clause-output g c = λ reads start held so_far. finish_as _ _ _ start _ _ _ _ _ (ap (flat_map rinex_item) held.2) so_far c.write_items.ensures
