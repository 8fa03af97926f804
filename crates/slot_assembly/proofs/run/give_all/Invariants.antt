use Rattle.std.proofs.Common.{◌≡◌, ◌≤◌, List}
use Rattle.nav_eph.specs.declared.part.Part.{Part}
use Rattle.slot_assembly.specs.Standing.{Stood}
use Rattle.slot_assembly.specs.Given.{flushed}
use Rattle.slot_assembly.proofs.FlushLemmas.{Gives}
use Rattle.slot_assembly.proofs.run.give_all.Given as goal

abbrev pub invariant-giving : goal.invariant-giving
invariant-giving g l = record {
  reference : g.A.Assembly.reference l.assembly ≡ g.A.Assembly.reference l.fn.assembly;
  window : g.A.Assembly.window l.assembly ≡ g.A.Assembly.window l.fn.assembly;
  stood : Stood (g.A.Assembly.stands_for l.assembly) (λ at. at.watermark ≤ 18446744073709551615);
  gives : (parts : List Part)
      → g.A.Assembly.stands_for l.fn.assembly (flushed (g.A.Assembly.reference l.fn.assembly) (g.A.Assembly.window l.fn.assembly) parts 0)
      → Gives (g.A.Assembly.stands_for l.assembly) (g.A.Assembly.reference l.fn.assembly) (g.A.Assembly.window l.fn.assembly) 0 18446744073709551615 parts l.given.items;
}

abbrev pub decreases-giving : goal.decreases-giving
decreases-giving g l = g.A.Assembly.left l.assembly
