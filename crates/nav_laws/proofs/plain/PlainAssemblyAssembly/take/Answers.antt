use Rattle.std.proofs.Common.{ℕ, ◌≤◌, refl, sym, subst, ◌∙◌}
use Rattle.nav_laws.specs.contracts.plain.PlainAssembly.{the_view}
use Rattle.nav_laws.specs.Plain.{PlainState, PlainStandsFor}
use Rattle.nav_laws.proofs.PlainLemmas.{stands_taken}
use Rattle.nav_laws.proofs.plain.PlainAssemblyAssembly.take.Goals as goal

pub returns-clause-ok : goal.returns-clause-ok
returns-clause-ok c = λ at h.
    let l = subst (λ (m : ℕ). m ≤ c.args.part.now.stamp) (sym c.requires.1.at_watermark ∙ h.at_watermark) c.requires.2 in
    let k = subst (λ (s : PlainState). PlainStandsFor s at) (sym c.self.view_is) h in
    stands_taken (the_view c.self.inside) _ at c.args.part.now k l c.note_value.ensures c.in_ok-keep.ensures.ok refl refl refl c.min-self-inside.ensures refl
