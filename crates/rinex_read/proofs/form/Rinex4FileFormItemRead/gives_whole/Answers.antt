use Rattle.rinex_read.specs.Judging.{judged}
use Rattle.rinex_read.proofs.ListedLemmas.{whole_at}
use Rattle.rinex_read.proofs.WholeLemmas.{judged_whole}
use Rattle.rinex_read.proofs.form.Rinex4FileFormItemRead.gives_whole.Goals as goal

pub returns : goal.returns
returns c = λ number lines. whole_at number (judged lines) (judged_whole lines)
