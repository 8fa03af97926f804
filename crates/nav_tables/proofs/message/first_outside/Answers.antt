use mir.Val.{SFits}
use Rattle.std.proofs.lemmas.Int.{to_z-of_z}
use Rattle.std.proofs.Common.{rules, w64, ap, ◌≡◌, ◌+◌, true, false, drop, get_or, pos, sym, ◌∙◌}
use Rattle.std.proofs.Common.{arith}
use Rattle.nav_tables.specs.Fields.{is_in_range}
use Rattle.nav_tables.proofs.LoopLemmas.{at_field, inside_more, no_field, none_left, outside_here}
use Rattle.nav_tables.proofs.message.first_outside.Goals as goal

pub returns-then-not-is_in_range : goal.returns-then-not-is_in_range
returns-then-not-is_in_range c =
    let i = c.loop-i.i in
    let fs = c.args.fields.now in
    let zs = c.args.numbers.now in
    let out : is_in_range (get_or fs i no_field) (get_or zs i (pos 0)) ≡ false =
    let fits : SFits w64 (get_or zs i (pos 0)) = search rules in
    ap (is_in_range (get_or fs i no_field)) (sym (to_z-of_z w64 (get_or zs i (pos 0)) fits))
    ∙ sym c.is_in_range.ensures ∙ c.if-not-is_in_range.true in
    sym (outside_here i (get_or fs i no_field) (drop (i + 1) fs) (get_or zs i (pos 0))
    (drop (i + 1) zs) out)
    ∙ sym (at_field i i fs zs c.requires (omega arith)) ∙ c.loop-i.invariant

pub loop-i-preserved : goal.loop-i-preserved
loop-i-preserved c =
    let i = c.loop-i.i in
    let fs = c.args.fields.now in
    let zs = c.args.numbers.now in
    let inside : is_in_range (get_or fs i no_field) (get_or zs i (pos 0)) ≡ true =
    let fits : SFits w64 (get_or zs i (pos 0)) = search rules in
    ap (is_in_range (get_or fs i no_field)) (sym (to_z-of_z w64 (get_or zs i (pos 0)) fits))
    ∙ sym c.is_in_range.ensures ∙ c.if-not-is_in_range.false in
    sym (inside_more i (get_or fs i no_field) (drop (i + 1) fs) (get_or zs i (pos 0))
    (drop (i + 1) zs) inside)
    ∙ sym (at_field i i fs zs c.requires (omega arith)) ∙ c.loop-i.invariant

pub returns : goal.returns
returns c = sym (none_left c.loop-i.i c.loop-i.i c.args.fields.now c.args.numbers.now
    (omega arith)) ∙ c.loop-i.invariant
