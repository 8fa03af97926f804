use Rattle.std.proofs.Common.{ℕ, List, ◌++◌, ap, ◌∙◌}
use Rattle.rinex_read.specs.declared.judged.Judged.{Judged}
use Rattle.rinex_read.specs.Judging.{judged}
use Rattle.rinex_read.specs.Forms.{Form, rinex4}
use Rattle.rinex_read.proofs.AlikeLemmas.{judged_stored}
use Rattle.rinex_read.proofs.FormLemmas.{form_kept}
use Rattle.rinex_read.proofs.record.RecordLines.push.Goals as goal

-- the judgments alone
abbrev plain : Form Judged
plain = record { names = rinex4.names; starts = rinex4.starts; judged = λ number lines. judged lines }

pub returns-clause-means : goal.returns-clause-means
returns-clause-means c = λ more. ap (λ (kept : List (List ℕ)). judged (kept ++ more)) c.keep.ensures ∙ form_kept plain (λ number lines. judged_stored lines) 0 c.args.self.now c.args.line.now more
