use Rattle.std.proofs.Common.{◌∙◌, refl, arith}
use Rattle.scaled_decimal.proofs.FourDigits.{number_at, high_at, are_digits, high_fits, digits_fit, by_pairs, four_read, four_below}
use Rattle.scaled_decimal.proofs.grammar.four_digits.Goals as goal

pub overflow_add-all : goal.overflow_add-all
overflow_add-all c =
    let n = c.from_le_bytes-all.result in
    let is = number_at c.args.text.now c.args.at n c.from_le_bytes-all.ensures in
    let high = high_at c.args.text.now c.args.at n (λ j. omega (arith, c.type_inv.text j)) is c.if-all-ne808464432.false in
    let fits = high_fits _ _ _ _ n high is in
    omega (arith, fits)

pub overflow_mul-pairs : goal.overflow_mul-pairs
overflow_mul-pairs c =
    let n = c.from_le_bytes-all.result in
    let is = number_at c.args.text.now c.args.at n c.from_le_bytes-all.ensures in
    let high = high_at c.args.text.now c.args.at n (λ j. omega (arith, c.type_inv.text j)) is c.if-all-ne808464432.false in
    let fits = digits_fit _ _ _ _ n (are_digits _ _ _ _ n high is c.if-all-ne808464432-2.false) is in
    omega (arith, fits)

pub overflow_add-pairs : goal.overflow_add-pairs
overflow_add-pairs c =
    let n = c.from_le_bytes-all.result in
    let is = number_at c.args.text.now c.args.at n c.from_le_bytes-all.ensures in
    let high = high_at c.args.text.now c.args.at n (λ j. omega (arith, c.type_inv.text j)) is c.if-all-ne808464432.false in
    let fits = digits_fit _ _ _ _ n (are_digits _ _ _ _ n high is c.if-all-ne808464432-2.false) is in
    omega (arith, fits)

pub returns : goal.returns
returns c =
    let t = c.args.text.now in
    let n = c.from_le_bytes-all.result in
    let is = number_at t c.args.at n c.from_le_bytes-all.ensures in
    let high = high_at t c.args.at n (λ j. omega (arith, c.type_inv.text j)) is c.if-all-ne808464432.false in
    let are = are_digits _ _ _ _ n high is c.if-all-ne808464432-2.false in
    let number = c.from.ensures ∙ by_pairs _ _ _ _ n _ are is refl in
    (λ m k. four_read t c.args.at c.from.result m k c.requires are number, four_below _ _ _ _ c.from.result are number)
