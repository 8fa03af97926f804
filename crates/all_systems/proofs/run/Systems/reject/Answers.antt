use Rattle.std.proofs.Common.{List, ℕ, refl, arith, subst, ◌∙◌}
use Rattle.std.specs.Prelude.{Some, Err}
use Rattle.std.specs.Io.KnownBytes.{Appends}
use Rattle.nav_io.specs.Prefix.{AppendsPrefix}
use Rattle.streams.proofs.Surface.{counts_are}
use Rattle.all_systems.proofs.Taking.{between_none, gives_none, gives_report, holds_fault, part_of_report}
use Rattle.all_systems.proofs.run.Systems.reject.Goals as goal

pub returns-in-Ok-clause-held : goal.returns-in-Ok-clause-held
returns-in-Ok-clause-held g c = holds_fault c.args.self.now.kinds c.args.self.now.week c.args.state.now _ c.args.frame.now (Some (c.args.message, c.args.reason.now)) c.requires.read (counts_are _ _ _ _ _ _ refl refl (omega arith) refl refl) refl refl

pub returns-in-Ok-clause-output : goal.returns-in-Ok-clause-output
returns-in-Ok-clause-output g c = λ w. gives_none c.args.self.now.kinds c.args.self.now.to c.args.self.now.week c.args.state.now c.args.frame.now (Some (c.args.message, c.args.reason.now)) w c.requires.read

pub returns-in-Ok-clause-unwritten : goal.returns-in-Ok-clause-unwritten
returns-in-Ok-clause-unwritten g c = λ w. between_none c.args.self.now.kinds c.args.self.now.to c.args.self.now.week c.args.state.now c.args.frame.now (Some (c.args.message, c.args.reason.now)) w c.requires.read

pub returns-in-Ok-clause-report : goal.returns-in-Ok-clause-report
returns-in-Ok-clause-report g c =
    gives_report c.args.self.now.kinds c.args.self.now.week c.args.state.now c.args.frame.now (Err (Some (c.args.message, c.args.reason.now))) _ _ c.requires.read
    (subst (λ (l : List ℕ). Appends (g.U.Sink.written c.args.report.now) (g.U.Sink.written c.write.new.self) l) (c.as_slice.ensures.value ∙ c.line_of.ensures) c.in-Ok.ensures.bytes)

pub returns-in-Err-clause-output : goal.returns-in-Err-clause-output
returns-in-Err-clause-output g c = λ w. gives_none c.args.self.now.kinds c.args.self.now.to c.args.self.now.week c.args.state.now c.args.frame.now (Some (c.args.message, c.args.reason.now)) w c.requires.read

pub returns-in-Err-clause-unwritten : goal.returns-in-Err-clause-unwritten
returns-in-Err-clause-unwritten g c = λ w. between_none c.args.self.now.kinds c.args.self.now.to c.args.self.now.week c.args.state.now c.args.frame.now (Some (c.args.message, c.args.reason.now)) w c.requires.read

pub returns-in-Err-clause-unreported : goal.returns-in-Err-clause-unreported
returns-in-Err-clause-unreported g c =
    part_of_report c.args.self.now.kinds c.args.self.now.week c.args.state.now c.args.frame.now (Err (Some (c.args.message, c.args.reason.now))) _ _ c.requires.read
    (subst (λ (l : List ℕ). AppendsPrefix (g.U.Sink.written c.args.report.now) (g.U.Sink.written c.write.new.self) l) (c.as_slice.ensures.value ∙ c.line_of.ensures) c.in-Err.ensures.bytes)
