use Rattle.std.proofs.Common.{◌*◌, ap₂, true, false}
use Rattle.scaled_decimal.specs.ScaleValue.{size_of}
use Rattle.scaled_decimal.proofs.SizeLemmas.{near_scale}
use Rattle.scaled_decimal.proofs.GuessLemmas.{found_as}
use Rattle.scaled_decimal.proofs.LiftLemmas.{told_parts}
use Rattle.scaled_decimal.proofs.lifting.lifted_parts.Goals as goal

pub returns-then-rank-le1245 : goal.returns-then-rank-le1245
returns-then-rank-le1245 c =
    let size = c.size_parts-size in
    found_as c.parts_with.result _ _ c.parts_with.ensures
    (λ p told. told_parts (size_of c.args.scale.now) c.args.number _ size.result.factor size.result.tens size.result.up size.result.down c.rank_of-rank.result
    c.in_ok-digits.digits true p.digits p.exponent (near_scale c.args.scale.now c.requires.scale) size.ensures c.requires.some c.requires.small
    (ap₂ (λ x y. x * y) c.from.ensures c.from-2.ensures) c.in_ok-digits.ensures (λ is. (c.if-size-eq0.true, c.if-rank-le1245.true)) told)

pub returns-else-size-eq0 : goal.returns-else-size-eq0
returns-else-size-eq0 c =
    let size = c.size_parts-size in
    found_as c.parts_with-else-size-eq0.result _ _ c.parts_with-else-size-eq0.ensures
    (λ p told. told_parts (size_of c.args.scale.now) c.args.number _ size.result.factor size.result.tens size.result.up size.result.down c.rank_of-rank.result
    c.in_ok-digits.digits false p.digits p.exponent (near_scale c.args.scale.now c.requires.scale) size.ensures c.requires.some c.requires.small
    (ap₂ (λ x y. x * y) c.from.ensures c.from-2.ensures) c.in_ok-digits.ensures (λ is. absurd (cc)) told)
