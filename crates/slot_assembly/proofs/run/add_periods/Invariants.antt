use Rattle.std.proofs.Common.{◌≡◌, take, None}
use Rattle.slot_assembly.proofs.FlushLemmas.{standing}
use Rattle.slot_assembly.proofs.run.add_periods.Given as goal

abbrev pub invariant-taking : goal.invariant-taking
invariant-taking g l = record {
  reference : g.A.Assembly.reference l.assembly ≡ g.A.Assembly.reference l.fn.assembly;
  window : g.A.Assembly.window l.assembly ≡ g.A.Assembly.window l.fn.assembly;
  stands : g.A.Assembly.stands_for l.assembly (standing (take l.part-index l.parts) 0 None);
}
