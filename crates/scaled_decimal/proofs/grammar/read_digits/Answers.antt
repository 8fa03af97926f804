use Rattle.std.proofs.Common.{◌≡◌, ◌+◌, ◌<◌, ◌^◌, true, get_or, arith, rules}
use Rattle.scaled_decimal.specs.NumberReading.{is_decimal}
use Rattle.scaled_decimal.proofs.WalkLemmas.{digit_more, number_more, number_fits, digit_below}
use Rattle.scaled_decimal.proofs.grammar.read_digits.Goals as goal

pub overflow_mul-number : goal.overflow_mul-number
overflow_mul-number c =
    let l = c.loop-place in
    let small : l.number < 10 ^ 18 = number_fits l.number (c.args.count + l.place) l.invariant.1 (omega (arith, c.requires.count)) in
    omega arith

pub overflow_add-number : goal.overflow_add-number
overflow_add-number c =
    let l = c.loop-place in
    let digit : is_decimal (get_or c.args.text.now l.place 0) ≡ true = search rules in
    let small : l.number < 10 ^ 18 = number_fits l.number (c.args.count + l.place) l.invariant.1 (omega (arith, c.requires.count)) in
    let below = digit_below (get_or c.args.text.now l.place 0) digit in
    omega (arith, c.from.ensures)

pub loop-place-preserved : goal.loop-place-preserved
loop-place-preserved c =
    let l = c.loop-place in
    let text = c.args.text.now in
    let digit : is_decimal (get_or text l.place 0) ≡ true = search rules in
    let below = digit_below (get_or text l.place 0) digit in (
      digit_more text c.args.number l.number c.args.count l.place c.from.result c.loop-place-test.true digit c.from.ensures l.invariant.0,
      number_more l.number c.args.count l.place c.from.result l.invariant.1 (omega (arith, c.from.ensures)),
    )
