use Rattle.std.proofs.Common.{◌≡◌, [], true, refl, sym, ◌∙◌}
use Rattle.nav_io.specs.declared.lines.LineKind.TheVariants.{End}
use Rattle.rinex_read.specs.declared.judged.HeaderState.TheVariants.{NotRinexNav}
use Rattle.rinex_read.proofs.NearSteps.{early_header, early_header_more, near_header_more, near_header_none}
use Rattle.rinex_read.specs.Mirrors.{state_of}
use Rattle.rinex_read.proofs.RecordSteps.{line_given, end_given}
use Rattle.rinex_read.proofs.HeaderLemmas.{answer_low, header_breaks, header_by, header_more, header_over}
use Rattle.rinex_read.proofs.reader.pass_header.Goals as goal

pub header-init : goal.header-init
header-init g c = record {
  steps = λ first. near_header_none (g.F.FileForm.form c.args.form.now) _ _;
  waiting = c.requires.waiting;
  numbered = c.requires.numbered;
  faults = refl;
  never = λ h. h;
}

pub returns-in-Err-ReadFault-clause-steps : goal.returns-in-Err-ReadFault-clause-steps
returns-in-Err-ReadFault-clause-steps g c = λ first.
    early_header_more (g.F.FileForm.form c.args.form.now) _ _ _ (state_of c.args.header.now [] first c.args.lines.now) (state_of c.header.header [] first c.header.lines) (state_of c.header.header [] first c.next.new.self)
    (c.header.invariant.steps first) (header_breaks (g.F.FileForm.form c.args.form.now) c.in-Err-ReadFault.field-0 _ _ c.header.header first c.header.lines c.next.new.self c.in-Err-ReadFault.ensures.fault)

pub returns-in-Err-TooLong-clause-steps : goal.returns-in-Err-TooLong-clause-steps
returns-in-Err-TooLong-clause-steps g c = λ first.
    early_header_more (g.F.FileForm.form c.args.form.now) _ _ _ (state_of c.args.header.now [] first c.args.lines.now) (state_of c.header.header [] first c.header.lines) (state_of c.header.header [] first c.next.new.self)
    (c.header.invariant.steps first) (header_breaks (g.F.FileForm.form c.args.form.now) c.in-Err-TooLong.field-0 _ _ c.header.header first c.header.lines c.next.new.self c.in-Err-TooLong.ensures.fault)

pub returns-then-is_end-clause-steps : goal.returns-then-is_end-clause-steps
returns-then-is_end-clause-steps g c = λ first.
    early_header (g.F.FileForm.form c.args.form.now) _ _ _ _ (near_header_more (g.F.FileForm.form c.args.form.now) _ _ _ (state_of c.args.header.now [] first c.args.lines.now) (state_of c.header.header [] first c.header.lines) (state_of NotRinexNav [] first c.next.new.self)
    (c.header.invariant.steps first) (header_over (g.F.FileForm.form c.args.form.now) _ _ c.header.header first c.header.lines c.next.new.self
    (end_given c.in-Ok.kind _ _ _ _ (c.is_end.ensures.0 c.if-is_end.true) c.in-Ok.ensures.answer) c.header.invariant.waiting))

pub returns-then-is_end-clause-answer : goal.returns-then-is_end-clause-answer
returns-then-is_end-clause-answer g c = (refl, λ waits. (end_given c.in-Ok.kind _ _ _ _ (c.is_end.ensures.0 c.if-is_end.true) c.in-Ok.ensures.answer).low)

pub returns-then-not-is_waiting-clause-answer : goal.returns-then-not-is_waiting-clause-answer
returns-then-not-is_waiting-clause-answer g c =
    let line = line_given c.in-Ok.kind _ _ _ _ (λ (e : c.in-Ok.kind ≡ End). let end : c.is_end.result ≡ true = c.is_end.ensures.1 e in absurd (cc c.if-is_end.false)) c.in-Ok.ensures.answer in
    answer_low c.answer_of.result c.args.header.now c.header_after.result c.args.lines.now c.next.new.self line.gives.low c.answer_of.ensures

pub returns-then-not-is_waiting-clause-steps : goal.returns-then-not-is_waiting-clause-steps
returns-then-not-is_waiting-clause-steps g c = λ first.
    let line = line_given c.in-Ok.kind _ _ _ _ (λ (e : c.in-Ok.kind ≡ End). let end : c.is_end.result ≡ true = c.is_end.ensures.1 e in absurd (cc c.if-is_end.false)) c.in-Ok.ensures.answer in
    header_by (g.F.FileForm.form c.args.form.now) c.answer_of.result _ _ _ _ (header_more (g.F.FileForm.form c.args.form.now) _ _ _ c.args.header.now c.header.header c.header_after.result first c.args.lines.now c.header.lines c.next.new.self c.text.result.now
    (c.header.invariant.steps first) line c.header.invariant.waiting c.text.ensures c.header_after.ensures)

pub header-preserved : goal.header-preserved
header-preserved g c =
    let line = line_given c.in-Ok.kind _ _ _ _ (λ (e : c.in-Ok.kind ≡ End). let end : c.is_end.result ≡ true = c.is_end.ensures.1 e in absurd (cc c.if-is_end.false)) c.in-Ok.ensures.answer in
    record {
      steps = λ first. header_more (g.F.FileForm.form c.args.form.now) _ _ _ c.args.header.now c.header.header c.header_after.result first c.args.lines.now c.header.lines c.next.new.self c.text.result.now
          (c.header.invariant.steps first) line c.header.invariant.waiting c.text.ensures c.header_after.ensures;
      waiting = sym c.is_waiting.ensures ∙ c.if-not-is_waiting.false;
      numbered = line.gives.numbered;
      faults = c.in-Ok.ensures.quiet ∙ c.header.invariant.faults;
      never = λ h. (c.in-Ok.ensures.never (c.header.invariant.never h)).1;
    }
