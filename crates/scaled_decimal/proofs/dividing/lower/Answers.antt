use Rattle.std.proofs.Common.{◌*◌, ◌-◌, ◌%◌, ◌^◌, ap, ap₂, arith}
use Rattle.scaled_decimal.proofs.GuessLemmas.{lowered_over, lowered_under}
use Rattle.scaled_decimal.proofs.dividing.lower.Goals as goal

pub returns-then-lifted-bits : goal.returns-then-lifted-bits
returns-then-lifted-bits c =
    let l = c.args.lifted.now in
    lowered_over l.number l.tens c.args.factor c.args.bits c.power_of_five.result _ _ c.requires.number c.requires.tens c.requires.factor
    (omega (arith, c.if-factor-gt31415926535898.false)) c.requires.bits c.if-lifted-bits.true c.power_of_five.ensures
    (ap₂ (λ x y. x * y) c.from.ensures c.from-2.ensures) (ap (λ n. n * 2 ^ (c.args.bits - l.tens) % 2 ^ 128) c.from-over.ensures)

pub returns : goal.returns
returns c =
    let l = c.args.lifted.now in
    lowered_under l.number l.tens c.args.factor c.args.bits c.power_of_five.result _ _ c.from-over.ensures c.requires.number c.requires.tens c.requires.factor
    (omega (arith, c.if-factor-gt60.false)) (omega (arith, c.if-lifted-bits.false)) c.power_of_five.ensures
    (ap₂ (λ x y. x * y * 2 ^ (l.tens - c.args.bits) % 2 ^ 128) c.from.ensures c.from-2.ensures)
