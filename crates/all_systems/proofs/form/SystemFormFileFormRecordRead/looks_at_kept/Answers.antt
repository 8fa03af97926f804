use Rattle.std.proofs.Common.{ap}
use Rattle.all_systems.specs.FileReadings.{Reading}
use Rattle.all_systems.proofs.KeptLines.{reading_kept}
use Rattle.all_systems.proofs.form.SystemFormFileFormRecordRead.looks_at_kept.Goals as goal

pub returns : goal.returns
returns c = λ number lines. ap (λ (x : Reading). record { line = number; reading = x }) (reading_kept c.looks_at_kept.ensures c.looks_at_kept-2.ensures c.args.self.now.kinds c.args.self.now.version lines)
