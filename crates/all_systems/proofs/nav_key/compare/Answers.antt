use Rattle.std.proofs.Common.{ap, sym, ◌∙◌}
use Rattle.std.specs.Cmp.Lexicographic.{slice_cmp}
use Rattle.std.specs.Ordering.{int_cmp}
use Rattle.std.specs.declared.cmp.Ordering.TheVariants.{Less, Equal, Greater}
use Rattle.all_systems.specs.NavOrder.{nav_front, nav_numbers}
use Rattle.all_systems.proofs.RowOrder.{nav_fronts}
use Rattle.all_systems.proofs.nav_key.compare.Goals as goal

pub returns-in-Less : goal.returns-in-Less
returns-in-Less c =
    c.in-Less.is
    ∙ sym (nav_fronts c.args.a.now c.args.b.now c.a.inside.front c.b.inside.front Less
    (c.a.invariant ∙ ap nav_front c.a.view_is) (c.b.invariant ∙ ap nav_front c.b.view_is) (sym c.in-Less.is ∙ c.cmp-order.ensures))

pub returns-in-Equal : goal.returns-in-Equal
returns-in-Equal c =
    c.compare_numbers.ensures
    ∙ (λ i. slice_cmp int_cmp (nav_numbers ((c.deref.ensures ∙ c.a.view_is) i)) (nav_numbers ((c.deref-in-Equal.ensures ∙ c.b.view_is) i)))
    ∙ sym (nav_fronts c.args.a.now c.args.b.now c.a.inside.front c.b.inside.front Equal
    (c.a.invariant ∙ ap nav_front c.a.view_is) (c.b.invariant ∙ ap nav_front c.b.view_is) (sym c.in-Equal.is ∙ c.cmp-order.ensures))

pub returns-in-Greater : goal.returns-in-Greater
returns-in-Greater c =
    c.in-Greater.is
    ∙ sym (nav_fronts c.args.a.now c.args.b.now c.a.inside.front c.b.inside.front Greater
    (c.a.invariant ∙ ap nav_front c.a.view_is) (c.b.invariant ∙ ap nav_front c.b.view_is) (sym c.in-Greater.is ∙ c.cmp-order.ensures))
