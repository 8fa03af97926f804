use Rattle.std.specs.List.{flat_map}
use Rattle.nav_files.proofs.Surface.{finish_as}
use Rattle.all_systems.specs.Merging.{all_entries, entry_text}
use Rattle.all_systems.proofs.merge.SystemsMergingTakerRecordRead.finish.Goals as goal

pub returns-clause-output : goal.returns-clause-output
returns-clause-output g c = λ reads start held so_far.
    finish_as _ _ _ start _ _ _ _ _ (λ i. flat_map (entry_text (c.outlet_of-to.ensures i)) (all_entries (held.2 i) (held.3 i) (held.4 i))) so_far c.write_merged.ensures
