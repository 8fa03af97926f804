use Rattle.std.proofs.Common.{refl, arith}
use Rattle.std.specs.Prelude.{None, Err}
use Rattle.std.proofs.KnownBytes.{Appends-nil}
use Rattle.streams.proofs.Surface.{counts_are}
use Rattle.all_systems.proofs.Taking.{gives_none, gives_report, holds_fault}
use Rattle.all_systems.proofs.run.Systems.pass.Goals as goal

pub returns-clause-held : goal.returns-clause-held
returns-clause-held c = holds_fault c.args.self.now.kinds c.args.self.now.week c.args.state.now _ c.args.frame.now None c.requires.read (counts_are _ _ _ _ _ _ refl (omega arith) refl refl refl) refl refl

pub returns-clause-output : goal.returns-clause-output
returns-clause-output c = λ w. gives_none c.args.self.now.kinds c.args.self.now.to c.args.self.now.week c.args.state.now c.args.frame.now None w c.requires.read

pub returns-clause-report : goal.returns-clause-report
returns-clause-report c = λ u. gives_report c.args.self.now.kinds c.args.self.now.week c.args.state.now c.args.frame.now (Err None) u u c.requires.read (Appends-nil u)
