use Rattle.std.proofs.Common.{◌≡◌, true, sym, ap, ◌∙◌}
use Rattle.rinex_read.specs.States.{RecordsState, is_waiting}
use Rattle.rinex_read.specs.Mirrors.{state_of}
use Rattle.rinex_read.proofs.HeaderLemmas.{header_all, passed_now, refused_now, passed_by, refused_by}
use Rattle.rinex_read.proofs.reader.RecordReader.read_header.Goals as goal

pub returns-then-not-is_waiting-clause-header : goal.returns-then-not-is_waiting-clause-header
returns-then-not-is_waiting-clause-header g c =
    passed_now (g.F.FileForm.form c.args.form.now) c.answer_of.result _ c.args.self.now c.self.inside.header (sym (ap (λ (s : RecordsState). s.header) c.self.view_is)) (sym c.is_waiting.ensures ∙ c.if-not-is_waiting.true) c.answer_of.ensures

pub returns-then-not-is_waiting-clause-fault : goal.returns-then-not-is_waiting-clause-fault
returns-then-not-is_waiting-clause-fault g c =
    refused_now (g.F.FileForm.form c.args.form.now) c.answer_of.result _ c.args.self.now c.self.inside.header (sym (ap (λ (s : RecordsState). s.header) c.self.view_is)) (sym c.is_waiting.ensures ∙ c.if-not-is_waiting.true) c.answer_of.ensures

pub returns-clause-header : goal.returns-clause-header
returns-clause-header g c =
    let waits : is_waiting c.self.inside.header ≡ true = sym c.is_waiting.ensures ∙ c.if-not-is_waiting.false in
    passed_by (g.F.FileForm.form c.args.form.now) c.pass_header.result _ _ c.args.self.now (state_of c.pass_header.new.header c.new-self-inside.result c.self.inside.first c.pass_header.new.lines) c.self.inside.header c.self.inside.lines
    (header_all (g.F.FileForm.form c.args.form.now) c.pass_header.result _ _ c.args.self.now c.self.inside.header c.pass_header.new.header c.self.inside.kept c.new-self-inside.result c.self.inside.first c.self.inside.lines c.pass_header.new.lines
    c.self.view_is c.new-self-inside.ensures waits (c.pass_header.ensures.steps c.self.inside.first)) c.pass_header.ensures.answer

pub returns-clause-fault : goal.returns-clause-fault
returns-clause-fault g c =
    let waits : is_waiting c.self.inside.header ≡ true = sym c.is_waiting.ensures ∙ c.if-not-is_waiting.false in
    refused_by (g.F.FileForm.form c.args.form.now) c.pass_header.result _ _ c.args.self.now (state_of c.pass_header.new.header c.new-self-inside.result c.self.inside.first c.pass_header.new.lines) c.self.inside.header c.self.inside.lines waits
    (header_all (g.F.FileForm.form c.args.form.now) c.pass_header.result _ _ c.args.self.now c.self.inside.header c.pass_header.new.header c.self.inside.kept c.new-self-inside.result c.self.inside.first c.self.inside.lines c.pass_header.new.lines
    c.self.view_is c.new-self-inside.ensures waits (c.pass_header.ensures.steps c.self.inside.first)) c.pass_header.ensures.answer
