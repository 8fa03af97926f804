use Rattle.std.proofs.Common.{◌*◌, ◌+◌, ◌-◌, ◌%◌, ◌^◌, ◌<◌, refl, ap, subst, arith}
use Rattle.scaled_decimal.specs.Fractions.{IsNearest}
use Rattle.scaled_decimal.proofs.GuessLemmas.{found_as}
use Rattle.scaled_decimal.proofs.LiftLemmas.{lifted_half, lifted_whole}
use Rattle.scaled_decimal.proofs.lifting.lifted_digits.Goals as goal

pub returns-then-twos-down : goal.returns-then-twos-down
returns-then-twos-down c =
    let wide = c.in_ok-wide.ensures in
    let twos = c.args.lift + c.args.up in
    found_as c.halved.result _ _ c.halved.ensures
    (λ n near. lifted_half c.args.over c.args.lift c.args.up c.args.down (5 ^ c.args.lift) n refl c.if-twos-down.true
    (subst (λ x. IsNearest (record { over = x; under = 2 ^ (c.args.down - twos) }) n) wide.0 near))

pub returns : goal.returns
returns c =
    let wide = c.in_ok-wide.ensures in
    let twos = c.args.lift + c.args.up in
    lifted_whole c.args.over c.args.lift c.args.up c.args.down (5 ^ c.args.lift) _ refl (omega (arith, c.if-twos-down.false)) wide.2 c.requires.up
    (subst (λ x. x < 2 ^ 64) wide.0 (omega (arith, c.if-wide.false)))
    (ap (λ x. x * 2 ^ (twos - c.args.down) % 2 ^ 128) wide.0)
