use Rattle.std.proofs.Common.{ap, sym, subst, ◌∙◌, arith}
use Rattle.nav_bits.specs.Fields.{AreFields, Stand, total_width}
use Rattle.nav_tables.proofs.MessageLemmas.{good_table, pairs_fit, pairs_width, pairs_written}
use Rattle.nav_tables.proofs.message.write_message.Goals as goal

pub bits_of_all-all-requires-clause-fields : goal.bits_of_all-all-requires-clause-fields
bits_of_all-all-requires-clause-fields c = (good_table c.args.table.now c.requires.table).fields

pub bits_of_all-all-requires-clause-few : goal.bits_of_all-all-requires-clause-few
bits_of_all-all-requires-clause-few c = (good_table c.args.table.now c.requires.table).few

pub put_numbers-requires-clause-fields : goal.put_numbers-requires-clause-fields
put_numbers-requires-clause-fields c =
    subst AreFields (sym (c.as_slice.ensures.value ∙ c.bits_of_all-all.ensures))
    (pairs_fit c.args.table.now.fields.now c.args.numbers.now
    (good_table c.args.table.now c.requires.table).fields c.requires.numbers)

pub put_numbers-requires-clause-inside : goal.put_numbers-requires-clause-inside
put_numbers-requires-clause-inside c =
    let g = good_table c.args.table.now c.requires.table in
    let e = ap total_width (c.as_slice.ensures.value ∙ c.bits_of_all-all.ensures)
    ∙ pairs_width c.args.table.now.fields.now c.args.numbers.now c.requires.numbers in
    omega (arith, g.width, e)

pub put_numbers-requires-clause-small : goal.put_numbers-requires-clause-small
put_numbers-requires-clause-small c = let g
    = good_table c.args.table.now c.requires.table in omega (arith, g.small)

pub returns : goal.returns
returns c =
    let stand = subst (λ ps. Stand c.put_numbers.new.bytes 0 0 ps)
    (c.as_slice.ensures.value ∙ c.bits_of_all-all.ensures) c.put_numbers.ensures.stand in
    pairs_written c.args.table.now c.args.numbers.now c.put_numbers.new.bytes c.requires.table
    c.requires.numbers
    (record { count_is = omega arith; fit = c.fit.ensures }) stand
