use Rattle.std.proofs.Common.{◌≡◌, true, get_or, rules, refl, arith}
use Rattle.scaled_decimal.specs.NumberReading.{is_decimal}
use Rattle.scaled_decimal.proofs.FourDigits.{mantissa_in_fours}
use Rattle.scaled_decimal.proofs.WalkLemmas.{digit_below}
use Rattle.scaled_decimal.proofs.grammar.usual_mantissa.Goals as goal

pub returns : goal.returns
returns c =
    let text = c.args.text.now in
    let digit : is_decimal (get_or text 1 0) ≡ true = search rules in
    let below = digit_below (get_or text 1 0) digit in
    let a = c.in_ok-a.ensures in
    let b = c.in_ok-b.ensures in
    let e = c.in_ok-c.ensures in
    mantissa_in_fours text c.from.result c.in_ok-a.a c.in_ok-b.b c.in_ok-c.c _ c.requires.long digit c.from.ensures (omega (arith, below, c.from.ensures))
    c.if-text-ne46.false c.requires.end a.1 b.1 e.1 a.0 b.0 e.0 refl
