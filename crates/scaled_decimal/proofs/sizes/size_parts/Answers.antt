use Rattle.std.proofs.Common.{rules, w32, FitsSigned, to_z-of_z}
use Rattle.scaled_decimal.proofs.SizeLemmas.{is_size}
use Rattle.scaled_decimal.proofs.sizes.size_parts.Goals as goal

pub returns : goal.returns
returns c =
    let s = c.args.scale.now in
    let two : FitsSigned w32 s.two = search rules in
    let ten : FitsSigned w32 s.ten = search rules in
    let twos = c.two_parts-up.ensures in
    let pi = c.pi_factors-pi.ensures in
    is_size s _ _ _ _ _ _ _ _ c.requires (to_z-of_z two) (to_z-of_z ten) c.from.ensures twos.over twos.under twos.up twos.bits
    pi.whole pi.from pi.to pi.tens_from pi.tens_to c.unsigned_abs.ensures.value
