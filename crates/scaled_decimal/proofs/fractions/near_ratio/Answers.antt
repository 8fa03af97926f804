use Rattle.std.proofs.Common.{◌≡◌, ◌*◌, ◌%◌, ◌^◌, ap, sym, ◌∙◌, arith, rules, w32, FitsSigned, to_z-of_z}
use Rattle.scaled_decimal.specs.ScaleValue.{size_of}
use Rattle.scaled_decimal.proofs.SizeLemmas.{is_sized, IsSized, product_is}
use Rattle.scaled_decimal.proofs.fractions.near_ratio.Goals as goal

pub returns : goal.returns
returns c =
    let s = c.args.scale.now in
    let two : FitsSigned w32 s.two = search rules in
    let ten : FitsSigned w32 s.ten = search rules in
    let sized : IsSized s c.from.result c.pi_part-whole.result c.hundredths.result (2 ^ c.two_parts-power.result.0) (2 ^ c.two_parts-power.result.1)
    = is_sized s _ _ _ _ _ _ _ c.requires (to_z-of_z two) (to_z-of_z ten) c.from.ensures
    c.two_parts-power.ensures.over c.two_parts-power.ensures.under
    c.pi_part-whole.ensures.whole c.pi_part-whole.ensures.from c.pi_part-whole.ensures.to
    c.hundredths.ensures.whole c.hundredths.ensures.from c.hundredths.ensures.to in
    let over : ((c.from-2.result * c.from-3.result) * 2 ^ c.two_parts-power.result.0) % 2 ^ 128
    ≡ ((c.from.result * c.pi_part-whole.result) * c.hundredths.result) * 2 ^ c.two_parts-power.result.0
    = product_is _ _ _ _ _ _ c.from-2.ensures c.from-3.ensures sized.over_to in
    record {
      same = sized.same ∙ ap (λ n. n * (size_of s).under) (sym over);
      bits = c.two_parts-power.ensures.bits;
      least = omega (arith, sized.under, sized.over_from, over);
      most = omega (arith, sized.over_to, over);
    }
