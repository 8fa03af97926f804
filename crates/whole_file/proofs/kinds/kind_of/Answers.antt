use Rattle.std.proofs.Common.{◌≡◌, ℕ, ap, refl, sym, take, ◌∙◌}
use Rattle.std.proofs.lemmas.List.{take_min}
use Rattle.whole_file.specs.Kinds.{prefix_kind}
use Rattle.whole_file.specs.Units.{first_unit}
use Rattle.whole_file.proofs.FirstUnit.{told_by_unit, unit_told}
use Rattle.whole_file.proofs.kinds.kind_of.Goals as goal

pub returns : goal.returns
returns c =
    let bytes = c.args.bytes.now in
    let first : take c.min-2.result bytes ≡ take 65536 bytes = ap (λ (n : ℕ). take n bytes) c.min-2.ensures ∙ take_min 65536 bytes in
    let head : take c.min.result bytes ≡ take 80 bytes = ap (λ (n : ℕ). take n bytes) c.min.ensures ∙ take_min 80 bytes in
    c.unwrap_or.ensures
    ∙ told_by_unit bytes c.prefix_kind-head.result c.find_unit.result.1 (c.prefix_kind-head.ensures ∙ ap prefix_kind head) (sym c.if-is_head.ensures)
    (unit_told (take c.min-2.result bytes) c.find_unit.result.0 c.find_unit.result.1 c.find_unit.ensures.passed c.find_unit.ensures.whole
    (c.find_unit.ensures.end refl)
    ∙ ap first_unit first)
