use Rattle.std.proofs.Common.{◌≡◌, ◌*◌, ◌^◌, ◌-◌, ap, sym, ◌∙◌, arith, rules, w32, FitsSigned, to_z, of_z, to_z-of_z, unsigned_abs}
use Rattle.scaled_decimal.specs.ScaleValue.{size_of}
use Rattle.scaled_decimal.proofs.FarLemmas.{IsRatio, far_whole, far_part}
use Rattle.scaled_decimal.proofs.fractions.far_ratio.Goals as goal
use Rattle.scaled_decimal.proofs.fractions.far_ratio.Goals.{After-power_of_ten, After-unsigned_abs-bits}

whole : (c : After-power_of_ten) → IsRatio (size_of c.args.scale.now) (c.from-factor.result * 10 ^ (20 - c.unsigned_abs.result)) 0
whole c =
    let s = c.args.scale.now in
    let two : FitsSigned w32 s.two = search rules in
    let ten : FitsSigned w32 s.ten = search rules in
    far_whole s c.from-factor.result c.unsigned_abs.result c.requires (sym (to_z-of_z two) ∙ ap (to_z w32) c.if-scale-eq0.true) c.from-factor.ensures
    (c.unsigned_abs.ensures.value ∙ ap unsigned_abs (to_z-of_z ten))

part : (c : After-unsigned_abs-bits) → IsRatio (size_of c.args.scale.now) (c.from-factor.result * 95367431640625) (c.unsigned_abs-bits.result - 20)
part c =
    let s = c.args.scale.now in
    let two : FitsSigned w32 s.two = search rules in
    far_part s c.from-factor.result c.unsigned_abs-bits.result c.requires (λ e. c.if-scale-eq0.false (ap (of_z w32) e)) c.from-factor.ensures
    (c.unsigned_abs-bits.ensures.value ∙ ap unsigned_abs (to_z-of_z two))

over : (c : After-power_of_ten) → c.from-factor.result * c.power_of_ten.result ≡ c.from-factor.result * 10 ^ (20 - c.unsigned_abs.result)
over c = ap (λ n. c.from-factor.result * n) c.power_of_ten.ensures

pub returns-then-scale-eq0-clause-same : goal.returns-then-scale-eq0-clause-same
returns-then-scale-eq0-clause-same c = (whole c).same ∙ ap (λ n. n * (size_of c.args.scale.now).under) (sym (over c))

pub returns-then-scale-eq0-clause-least : goal.returns-then-scale-eq0-clause-least
returns-then-scale-eq0-clause-least c = let r = whole c in omega (arith, over c, r.least)

pub returns-then-scale-eq0-clause-most : goal.returns-then-scale-eq0-clause-most
returns-then-scale-eq0-clause-most c = let r = whole c in omega (arith, over c, r.most)

pub returns-else-scale-eq0-clause-same : goal.returns-else-scale-eq0-clause-same
returns-else-scale-eq0-clause-same c = (part c).same

pub returns-else-scale-eq0-clause-least : goal.returns-else-scale-eq0-clause-least
returns-else-scale-eq0-clause-least c = (part c).least
