use Rattle.std.proofs.Common.{◌++◌, ap, ◌∙◌}
use Rattle.streams.specs.Targets.{back_text}
use Rattle.nav_files.proofs.Surface.{finish_as}
use Rattle.all_systems.specs.Files.{counts_text}
use Rattle.all_systems.proofs.file_run.SystemsTakerRecordRead.finish.Goals as goal

pub returns-clause-output : goal.returns-clause-output
returns-clause-output g c = λ reads start held so_far.
    let behind = c.as_slice.ensures.value ∙ held.2 in
    let counts = ap (back_text c.args.self.now.to) (c.as_slice-2.ensures.value ∙ c.counts_text-counts.ensures ∙ ap counts_text held.0) in
    finish_as _ _ _ start _ _ _ _ _ (λ i. behind i ++ counts i) so_far c.write_behind.ensures
