use Rattle.std.proofs.Common.{◌≡◌, ℕ, None, List, subst, ◌∙◌, refl, take_all}
use Rattle.nav_eph.specs.declared.part.Part.{Part}
use Rattle.periods.specs.PeriodsOf.{closed_of}
use Rattle.slot_assembly.proofs.FlushLemmas.{standing, flushed_parts, closed_of-last}
use Rattle.slot_assembly.proofs.run.add_periods.Goals as goal

pub returns : goal.returns
returns g c =
    let r = g.A.Assembly.reference c.args.assembly.now in
    let w = g.A.Assembly.window c.args.assembly.now in
    let now = g.A.Assembly.stands_for c.taking.assembly in
    let parts = c.args.parts.now in
    let stands : now (standing parts 0 None) = subst (λ (ps : List Part). now (standing ps 0 None)) (take_all c.taking.part-index parts c.taking-test.false) c.taking.invariant.stands in
    let m : ℕ = 18446744073709551615 in
    let gave : c.give_all.new.given.items ≡ closed_of r w m parts =
    subst (λ (x : ℕ). c.give_all.new.given.items ≡ closed_of r x m parts) c.taking.invariant.window
    (subst (λ (x : ℕ). c.give_all.new.given.items ≡ closed_of x (g.A.Assembly.window c.taking.assembly) m parts) c.taking.invariant.reference
    (c.in_ok-give_all.ensures parts (flushed_parts now (g.A.Assembly.reference c.taking.assembly) (g.A.Assembly.window c.taking.assembly) parts stands))) in
    gave ∙ closed_of-last r w m parts (g.met.A.Assembly.parts_are_values c.taking.assembly (standing parts 0 None) stands) c.requires.window refl
