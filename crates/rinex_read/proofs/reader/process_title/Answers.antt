use Rattle.std.proofs.Common.{◌≡◌, [], true, ap, ◌∙◌}
use Rattle.rinex_read.specs.Kept.{kept_with}
use Rattle.rinex_read.proofs.TakeLemmas.{line_begins, line_next}
use Rattle.rinex_read.proofs.reader.process_title.Goals as goal

pub returns-then-is_empty-clause-none : goal.returns-then-is_empty-clause-none
returns-then-is_empty-clause-none g c =
    let first = c.requires in
    line_begins (g.F.FileForm.form c.args.form.now) c.looks_at_kept.ensures c.args.kept.now c.push.new.self c.args.first.now c.args.number c.args.line.now (c.is_empty.ensures.0 c.if-is_empty.true) c.push.ensures.kept first

pub returns-clause-some : goal.returns-clause-some
returns-clause-some g c =
    let first = c.requires in
    let new : c.push-2.new.self ≡ kept_with [] c.args.line.now = c.push-2.ensures.kept ∙ ap (λ ks. kept_with ks c.args.line.now) c.clear.ensures in
    line_next (g.F.FileForm.form c.args.form.now) c.looks_at_kept.ensures c.args.kept.now c.push-2.new.self c.args.first.now c.args.number c.args.line.now c.judge-read.result
    (λ e. let full : c.is_empty.result ≡ true = c.is_empty.ensures.1 e in absurd (cc c.if-is_empty.false)) new first c.judge-read.ensures
