use Rattle.std.proofs.Common.{◌≡◌, ◌+◌, ◌/◌, ◌%◌, ◌*◌, ◌^◌, ◌∙◌, refl, ap, arith}
use Rattle.scaled_decimal.proofs.LiftLemmas.{tenth_near}
use Rattle.scaled_decimal.proofs.lifting.tenth.Goals as goal

pub returns-then-whole-part : goal.returns-then-whole-part
returns-then-whole-part c =
    let o = c.args.over in
    let b : c.args.bits % 64 ≡ c.args.bits = omega (arith, c.requires) in
    let p = o / 2 ^ (c.args.bits % 64) in
    tenth_near o c.args.bits p ((p + 5) / 10) (ap (λ i. o / 2 ^ i) b) refl
    (λ e x.
    let same : p * 2 ^ (c.args.bits % 64) ≡ o = ap (λ i. p * 2 ^ i) b ∙ x in
    omega (arith, same, c.if-part-bits.false))

pub returns : goal.returns
returns c =
    let o = c.args.over in
    let b : c.args.bits % 64 ≡ c.args.bits = omega (arith, c.requires) in
    let p = o / 2 ^ (c.args.bits % 64) in
    tenth_near o c.args.bits p ((p + 5) / 10) (ap (λ i. o / 2 ^ i) b) refl (λ e x. omega (arith, e, c.if-whole-part.false))
