use Rattle.std.proofs.Common.{◌≡◌, ◌+◌, ◌*◌, ◌^◌, ◌<◌, length, get_or, unsigned_abs, rules, sym, ap}
use Rattle.std.proofs.Common.{◌∙◌, arith, to_z, of_z, w64}
use mir.Val.{SFits}
use Rattle.std.proofs.lemmas.Int.{to_z-of_z}
use Rattle.std.proofs.Math.Nat.{mod-eq_of_lt}
use Rattle.nav_tables.specs.declared.link.Part.{Part}
use Rattle.nav_tables.specs.Links.{nth}
use Rattle.nav_tables.proofs.LinkLemmas.{joined_first, joined-lt, joined_small}
use Rattle.nav_tables.proofs.columns.+joined.Goals as goal
use Rattle.nav_tables.proofs.columns.+joined.Goals.{After-joined}

abbrev none : Part
none = record { field = 0; width = 0; low = 0 }

pub returns-in-len1-up-clause-value : goal.returns-in-len1-up-clause-value
returns-in-len1-up-clause-value t c =
    let ps = c.args.parts.now in
    let zs = c.args.numbers.now in
    let z = nth zs (get_or ps 0 none).field in
    let fits : SFits w64 z = search rules in
    let first = joined_first ps zs none c.in-len1-up.len_at_least in
    let small = joined_small (length zs) ps zs c.requires.parts c.requires.fit in
    let same : unsigned_abs (to_z w64 (of_z w64 z)) * 2 ^
    (get_or ps 0 none).low ≡ unsigned_abs z * 2 ^ (get_or ps 0 none).low
    = ap (λ y. unsigned_abs y * 2 ^ (get_or ps 0 none).low) (to_z-of_z w64 z fits) in
    let less : unsigned_abs (to_z w64 (of_z w64 z)) * 2 ^ (get_or ps 0 none).low < 2 ^ 64
    = omega (arith, same, first, small) in
    ap (λ n. n + c.joined.result) (mod-eq_of_lt less ∙ same)
    ∙ ap (λ n. unsigned_abs z * 2 ^ (get_or ps 0 none).low + n) c.joined.ensures.value
    ∙ sym first

pub returns-in-len1-up-clause-few : goal.returns-in-len1-up-clause-few
returns-in-len1-up-clause-few t c =
    let value = returns-in-len1-up-clause-value t c in
    let less = joined-lt (length c.args.numbers.now) c.args.parts.now c.args.numbers.now
    c.requires.parts c.requires.fit in
    omega (arith, value, less)

pub returns-in-len1-up-clause-most : goal.returns-in-len1-up-clause-most
returns-in-len1-up-clause-most t c =
    let value = returns-in-len1-up-clause-value t c in
    let less = joined_small
    (length c.args.numbers.now) c.args.parts.now c.args.numbers.now c.requires.parts
    c.requires.fit in
    omega (arith, value, less)
