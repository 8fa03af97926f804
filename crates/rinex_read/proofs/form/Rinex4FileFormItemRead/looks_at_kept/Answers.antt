use Rattle.std.proofs.Common.{ap}
use Rattle.rinex_read.specs.Forms.{read_at}
use Rattle.rinex_read.proofs.AlikeLemmas.{judged_stored}
use Rattle.rinex_read.proofs.form.Rinex4FileFormItemRead.looks_at_kept.Goals as goal

pub returns : goal.returns
returns c = λ number lines. ap (read_at number) (judged_stored lines)
