use Rattle.std.proofs.Common.{◌++◌, ap, sym, ◌∙◌}
use Rattle.streams.specs.Times.{times_with}
use Rattle.streams.proofs.Surface.{times_behind}
use Rattle.nav_files.proofs.merge.times_in.Goals as goal

pub items-preserved : goal.items-preserved
items-preserved c =
    ap (λ t. times_with t c.next_few.new.self) c.with_items-times.ensures
    ∙ sym (times_behind c.items.times c.as_slice.result.now c.next_few.new.self)
    ∙ ap (times_with c.items.times) (sym (c.in-Some.ensures.few ∙ (λ i. sym c.as_slice.ensures i ++ c.next_few.new.self)))
    ∙ c.items.invariant
