use Rattle.std.proofs.Common.{◌≡◌, true, refl}
use Rattle.rinex_read.proofs.TakeLemmas.{line_passed, line_more}
use Rattle.rinex_read.proofs.reader.process_more.Goals as goal

pub returns-then-not-is_empty : goal.returns-then-not-is_empty
returns-then-not-is_empty g c first number =
    line_more (g.F.FileForm.form c.args.form.now) c.looks_at_kept.ensures c.args.kept.now c.push.new.self first number c.args.line.now
    (λ e. let full : c.is_empty.result ≡ true = c.is_empty.ensures.1 e in absurd (cc c.if-not-is_empty.true)) c.push.ensures.kept c.requires

pub returns-else-not-is_empty : goal.returns-else-not-is_empty
returns-else-not-is_empty g c first number =
    line_passed (g.F.FileForm.form c.args.form.now) c.args.kept.now _ first number c.args.line.now (c.is_empty.ensures.0 c.if-not-is_empty.false) refl c.requires
