use Rattle.std.proofs.Common.{sym, subst, ◌∙◌}
use Rattle.nav_lists.specs.Covering.{AreRanges}
use Rattle.nav_lists.specs.Ranges.{AreFilled}
use Rattle.nav_lists.proofs.CoverLemmas.{covers_item, filled_put, full_span, item_ranges, joined_ranges, rising}
use Rattle.nav_lists.proofs.cover.Cover.add.Goals as goal

pub invariant_of-self-in-Some : goal.invariant_of-self-in-Some
invariant_of-self-in-Some c =
    subst AreFilled (sym c.in_ok-insert-in-Some.ensures.keys)
    (filled_put c.self.inside.spans.keys c.in-Some.range c.self.invariant (full_span c.args.item.now c.in-Some.range (sym c.span.ensures ∙ c.in-Some.is)))

pub returns-in_ok-insert-in-Some-clause-form : goal.returns-in_ok-insert-in-Some-clause-form
returns-in_ok-insert-in-Some-clause-form c =
    item_ranges c.args.item.now c.self.inside.spans.keys c.insert.new.self.keys c.in-Some.range (sym c.span.ensures ∙ c.in-Some.is)
    (rising c.self.inside.spans.keys c.len-count.ensures.ordered c.self.invariant) c.in_ok-insert-in-Some.ensures.keys

pub returns-in_ok-insert-in-Some-clause-covers : goal.returns-in_ok-insert-in-Some-clause-covers
returns-in_ok-insert-in-Some-clause-covers c =
    covers_item c.args.item.now c.args.self.now c.self.inside.spans.keys c.insert.new.self.keys c.in-Some.range (sym c.span.ensures ∙ c.in-Some.is) c.self.view_is
    (rising c.self.inside.spans.keys c.len-count.ensures.ordered c.self.invariant) c.in_ok-insert-in-Some.ensures.keys

pub returns-in-None-clause-form : goal.returns-in-None-clause-form
returns-in-None-clause-form c =
    subst AreRanges c.self.view_is (joined_ranges c.self.inside.spans.keys (rising c.self.inside.spans.keys c.len-count.ensures.ordered c.self.invariant))
