use Rattle.std.proofs.Common.{ap, sym, ◌∙◌}
use Rattle.std.specs.declared.cmp.Ordering.TheVariants.{Less, Greater}
use Rattle.nav_rows.specs.Order.{by_rank, front_of}
use Rattle.all_systems.specs.KeptRows.{kept_row}
use Rattle.all_systems.proofs.RowOrder.{fronts}
use Rattle.all_systems.proofs.row_key.compare.Goals as goal

pub returns-in-Less : goal.returns-in-Less
returns-in-Less c =
    c.in-Less.is
    ∙ sym (fronts c.args.a.now c.args.b.now c.a.inside.front c.b.inside.front Less
    (c.a.invariant.1 ∙ ap (λ x. front_of x.kind x.row) c.a.view_is) (c.b.invariant.1 ∙ ap (λ x. front_of x.kind x.row) c.b.view_is) (sym c.in-Less.is ∙ c.cmp-order.ensures))

pub returns-in-Equal : goal.returns-in-Equal
returns-in-Equal c =
    c.compare_ranks.ensures
    ∙ (λ i. by_rank ((ap kept_row c.deref.ensures ∙ c.a.view_is) i) ((ap kept_row c.deref-in-Equal.ensures ∙ c.b.view_is) i))

pub returns-in-Greater : goal.returns-in-Greater
returns-in-Greater c =
    c.in-Greater.is
    ∙ sym (fronts c.args.a.now c.args.b.now c.a.inside.front c.b.inside.front Greater
    (c.a.invariant.1 ∙ ap (λ x. front_of x.kind x.row) c.a.view_is) (c.b.invariant.1 ∙ ap (λ x. front_of x.kind x.row) c.b.view_is) (sym c.in-Greater.is ∙ c.cmp-order.ensures))
