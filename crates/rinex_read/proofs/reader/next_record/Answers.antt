use Rattle.std.proofs.Common.{◌≡◌, ℕ, List, true, refl, subst, ◌∙◌, arith}
use Rattle.nav_io.specs.declared.lines.LineKind.TheVariants.{End}
use Rattle.rinex_read.specs.declared.judged.HeaderState.TheVariants.{Passed}
use Rattle.rinex_read.proofs.NearSteps.{near_steps_none}
use Rattle.rinex_read.specs.Forms.{Form}
use Rattle.rinex_read.specs.Mirrors.{TakesLine, state_of}
use Rattle.rinex_read.proofs.RecordSteps.{line_given, end_given, line_gives, line_keeps, end_gives, breaks}
use Rattle.rinex_read.proofs.reader.next_record.Goals as goal

takes_at : {R : Type 0} (f : Form R) (kept : List (List ℕ)) (first : ℕ) (new : List (List ℕ)) (first_new : ℕ) (line text : List ℕ) (number place : ℕ) (given : List R) → line ≡ text → number ≡ place
    → TakesLine f kept first new first_new line number given → TakesLine f kept first new first_new text place given
takes_at f kept first new first_new line text number place given e same takes =
    subst (λ t. TakesLine f kept first new first_new t place given) e (subst (λ n. TakesLine f kept first new first_new line n given) same takes)

pub records-init : goal.records-init
records-init g c = record {
  steps = λ header. near_steps_none (g.F.FileForm.form c.args.form.now) _ _;
  near = omega arith;
  numbered = c.requires.numbered;
  faults = refl;
  never = λ h. h;
}

pub returns-in-Err-clause-fault : goal.returns-in-Err-clause-fault
returns-in-Err-clause-fault g c = λ header.
    breaks (g.F.FileForm.form c.args.form.now) c.in-Err.fault _ _ _ (state_of header c.args.kept.now c.args.first.now c.args.lines.now) (state_of header c.records.kept c.records.first c.records.lines)
    (state_of header c.records.kept c.records.first c.next.new.self) (c.records.invariant.steps header) c.in-Err.ensures.fault refl refl refl

pub returns-then-is_end-clause-read : goal.returns-then-is_end-clause-read
returns-then-is_end-clause-read g c = λ header.
    end_gives (g.F.FileForm.form c.args.form.now) _ _ _ (state_of header c.args.kept.now c.args.first.now c.args.lines.now) (state_of header c.records.kept c.records.first c.records.lines)
    (state_of header c.process_end.new.kept c.records.first c.next.new.self) c.process_end.result (c.records.invariant.steps header) c.records.invariant.near
    (end_given c.in-Ok.kind _ _ _ _ (c.is_end.ensures.0 c.if-is_end.true) c.in-Ok.ensures.answer) c.process_end.ensures.read c.process_end.ensures.kept refl

pub returns-in-Some-clause-read : goal.returns-in-Some-clause-read
returns-in-Some-clause-read g c = λ header.
    let line = line_given c.in-Ok.kind _ _ _ _ (λ (e : c.in-Ok.kind ≡ End). let end : c.is_end.result ≡ true = c.is_end.ensures.1 e in absurd (cc c.if-is_end.false)) c.in-Ok.ensures.answer in
    line_gives (g.F.FileForm.form c.args.form.now) _ _ _ (state_of header c.args.kept.now c.args.first.now c.args.lines.now) (state_of header c.records.kept c.records.first c.records.lines)
    (state_of header c.process_title.new.kept c.process_title.new.first c.next.new.self) c.in-Some.read (c.records.invariant.steps header) c.records.invariant.near line
    (takes_at (g.F.FileForm.form c.args.form.now) _ _ _ _ _ _ _ _ _ c.text-line.ensures c.number.ensures c.in-Some.ensures.some) refl

pub records-preserved-then-not-begins : goal.records-preserved-then-not-begins
records-preserved-then-not-begins g c =
    let line = line_given c.in-Ok.kind _ _ _ _ (λ (e : c.in-Ok.kind ≡ End). let end : c.is_end.result ≡ true = c.is_end.ensures.1 e in absurd (cc c.if-is_end.false)) c.in-Ok.ensures.answer in
    let takes = takes_at (g.F.FileForm.form c.args.form.now) _ _ _ _ _ _ _ _ _ c.text-line.ensures refl (c.process_more.ensures c.records.first c.next.new.self.number) in
    record {
      steps = λ header. (line_keeps (g.F.FileForm.form c.args.form.now) _ _ _ (state_of header c.args.kept.now c.args.first.now c.args.lines.now) (state_of header c.records.kept c.records.first c.records.lines)
          (state_of header c.process_more.new.kept c.records.first c.next.new.self) (c.records.invariant.steps header) c.records.invariant.near line takes refl).0;
      near = (line_keeps (g.F.FileForm.form c.args.form.now) _ _ _ (state_of Passed c.args.kept.now c.args.first.now c.args.lines.now) (state_of Passed c.records.kept c.records.first c.records.lines)
          (state_of Passed c.process_more.new.kept c.records.first c.next.new.self) (c.records.invariant.steps Passed) c.records.invariant.near line takes refl).1;
      numbered = line.gives.numbered;
      faults = c.in-Ok.ensures.quiet ∙ c.records.invariant.faults;
      never = λ h. (c.in-Ok.ensures.never (c.records.invariant.never h)).1;
    }

pub records-preserved : goal.records-preserved
records-preserved g c =
    let line = line_given c.in-Ok.kind _ _ _ _ (λ (e : c.in-Ok.kind ≡ End). let end : c.is_end.result ≡ true = c.is_end.ensures.1 e in absurd (cc c.if-is_end.false)) c.in-Ok.ensures.answer in
    let takes = takes_at (g.F.FileForm.form c.args.form.now) _ _ _ _ _ _ _ _ _ c.text-line.ensures c.number.ensures c.in_default.ensures.none in
    record {
      steps = λ header. (line_keeps (g.F.FileForm.form c.args.form.now) _ _ _ (state_of header c.args.kept.now c.args.first.now c.args.lines.now) (state_of header c.records.kept c.records.first c.records.lines)
          (state_of header c.process_title.new.kept c.process_title.new.first c.next.new.self) (c.records.invariant.steps header) c.records.invariant.near line takes refl).0;
      near = (line_keeps (g.F.FileForm.form c.args.form.now) _ _ _ (state_of Passed c.args.kept.now c.args.first.now c.args.lines.now) (state_of Passed c.records.kept c.records.first c.records.lines)
          (state_of Passed c.process_title.new.kept c.process_title.new.first c.next.new.self) (c.records.invariant.steps Passed) c.records.invariant.near line takes refl).1;
      numbered = line.gives.numbered;
      faults = c.in-Ok.ensures.quiet ∙ c.records.invariant.faults;
      never = λ h. (c.in-Ok.ensures.never (c.records.invariant.never h)).1;
    }
