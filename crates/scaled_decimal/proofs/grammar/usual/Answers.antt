use Rattle.std.proofs.Common.{◌≡◌, pos, ◌-ℤ◌, arith, w32, to_z, of_z}
use Rattle.std.proofs.lemmas.Int.{ints}
use Rattle.scaled_decimal.proofs.UsualLemmas.{usual_is}
use Rattle.scaled_decimal.proofs.grammar.usual.Goals as goal

pub returns : goal.returns
returns c =
    let e = c.in_ok-exponent.exponent in
    let m = c.in_ok-digits.ensures in
    let p = c.in_ok-exponent.ensures in
    let exponent : to_z w32 (of_z w32 (to_z w32 (of_z w32 e) -ℤ pos 12)) ≡ e -ℤ pos 12 = omega (arith, ints, p.from, p.to) in (
      usual_is c.args.text.now c.in_ok-minus.minus c.in_ok-digits.digits e _ c.if-text-ne19.false c.in_ok-minus.ensures m p exponent,
      record {
        below = omega (arith, m.below);
        from = omega (arith, ints, p.from, p.to);
        to = omega (arith, ints, p.from, p.to);
      },
    )
