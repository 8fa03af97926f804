use Rattle.std.proofs.Common.{ℕ, List, ◌∷◌, take, ap, ◌∙◌}
use Rattle.rinex_read.specs.Judging.{judged}
use Rattle.rinex_read.proofs.AlikeLemmas.{judged_title}
use Rattle.rinex_read.proofs.record.RecordLines.judge_behind.Goals as goal

pub returns : goal.returns
returns c =
    c.judge_lines.ensures
    ∙ ap (λ (title : List ℕ). judged (title ∷ take c.self.inside.count c.self.inside.lines)) c.padded.ensures
    ∙ judged_title c.args.title.now (take c.self.inside.count c.self.inside.lines)
    ∙ ap (λ (lines : List (List ℕ)). judged (c.args.title.now ∷ lines)) c.self.view_is
