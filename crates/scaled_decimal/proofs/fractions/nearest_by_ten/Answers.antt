use Rattle.std.proofs.Common.{◌≡◌, ◌*◌, ◌+◌, ◌%◌, ◌^◌, ◌∙◌, arith}
use Rattle.scaled_decimal.proofs.QuotientLemmas.{five_pos, fits_whole, two_by_ten, IsDivided, prefix_divided, nearest_of}
use Rattle.scaled_decimal.proofs.fractions.nearest_by_ten.Goals as goal
use Rattle.scaled_decimal.proofs.fractions.nearest_by_ten.Goals.{After-quotient_by_five-whole}

under_is : (c : After-quotient_by_five-whole) → c.from.result * 2 ^ (c.args.bits + c.args.tens) % 2 ^ 128 ≡ 2 ^ c.args.bits * 10 ^ c.args.tens
under_is c =
    fits_whole (c.from.result * 2 ^ (c.args.bits + c.args.tens)) (2 ^ c.args.bits * 10 ^ c.args.tens) c.args.over
    (two_by_ten c.args.bits c.args.tens c.from.result (c.from.ensures ∙ c.power_of_five-five.ensures)) c.requires.fits (omega arith)

divided : (c : After-quotient_by_five-whole) → IsDivided c.args.over (c.from.result * 2 ^ (c.args.bits + c.args.tens) % 2 ^ 128) c.quotient_by_five-whole.result
divided c =
    prefix_divided c.args.over c.args.bits c.args.tens c.power_of_five-five.result c.quotient_by_five-whole.result _
    c.power_of_five-five.ensures c.quotient_by_five-whole.ensures (under_is c)

pub quotient_by_five-whole-requires : goal.quotient_by_five-whole-requires
quotient_by_five-whole-requires c = five_pos c.args.tens c.power_of_five-five.result c.power_of_five-five.ensures

pub overflow_mul-whole : goal.overflow_mul-whole
overflow_mul-whole c = let low = (divided c).low in omega arith

pub overflow_sub-over : goal.overflow_sub-over
overflow_sub-over c = (divided c).low

pub rounded-requires-clause-rest : goal.rounded-requires-clause-rest
rounded-requires-clause-rest c = let parts = divided c in omega (arith, parts.low, parts.high)

pub rounded-requires-clause-whole : goal.rounded-requires-clause-whole
rounded-requires-clause-whole c = let low = (divided c).low in omega arith

pub returns : goal.returns
returns c =
    let whole : c.from.result * 2 ^ (c.args.bits + c.args.tens) ≡ 2 ^ c.args.bits * 10 ^ c.args.tens
    = two_by_ten c.args.bits c.args.tens c.from.result (c.from.ensures ∙ c.power_of_five-five.ensures) in
    let under = fits_whole (c.from.result * 2 ^ (c.args.bits + c.args.tens)) (2 ^ c.args.bits * 10 ^ c.args.tens) c.args.over whole c.requires.fits (omega arith) in
    let parts = prefix_divided c.args.over c.args.bits c.args.tens c.power_of_five-five.result c.quotient_by_five-whole.result _
    c.power_of_five-five.ensures c.quotient_by_five-whole.ensures under in
    nearest_of c.args.over c.quotient_by_five-whole.result _ _ c.rounded.result under parts.low c.rounded.ensures
