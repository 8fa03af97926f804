use Rattle.std.proofs.Common.{sym, ap, ◌∙◌, ◌-◌, take, drop, set, get_or, length, rules, w64}
use mir.Val.{SFits}
use Rattle.std.proofs.lemmas.Int.{to_z-of_z}
use Rattle.nav_tables.specs.declared.link.Part.{Part}
use Rattle.nav_tables.specs.Links.{split}
use Rattle.nav_tables.proofs.LinkLemmas.{split_first}
use Rattle.nav_tables.proofs.columns.+split.Goals as goal

abbrev none : Part
none = record { field = 0; width = 0; low = 0 }

pub returns-in-len1-up-clause-value : goal.returns-in-len1-up-clause-value
returns-in-len1-up-clause-value t c =
    let ps = c.args.parts.now in
    let zs = c.args.numbers.now in
    let fits : SFits w64 c.part_of.result = search rules in
    let same = to_z-of_z w64 c.part_of.result fits ∙ c.part_of.ensures in
    c.split.ensures.value
    ∙ ap (λ z. split (take (length ps - 1) (drop 1 ps)) c.args.bits
    (set zs (get_or ps 0 none).field z)) same
    ∙ sym (split_first ps c.args.bits zs none c.in-len1-up.len_at_least)
