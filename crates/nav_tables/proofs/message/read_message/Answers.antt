use Rattle.std.proofs.Common.{◌≡◌, length, Some, None, ap, ◌∙◌, arith}
use Rattle.nav_tables.specs.Messages.{first_outside}
use Rattle.nav_tables.proofs.LoopLemmas.{long_is, short_is}
use Rattle.nav_tables.proofs.MessageLemmas.{good_table, numbers_length, read_in_range}
use Rattle.nav_tables.proofs.message.read_message.Goals as goal

pub returns-then-bytes-table-clause-err : goal.returns-then-bytes-table-clause-err
returns-then-bytes-table-clause-err c = short_is c.args.table.now c.args.bytes.now (omega arith)

pub numbers_of-numbers-requires-clause-fields : goal.numbers_of-numbers-requires-clause-fields
numbers_of-numbers-requires-clause-fields c = (good_table c.args.table.now c.requires).fields

pub numbers_of-numbers-requires-clause-few : goal.numbers_of-numbers-requires-clause-few
numbers_of-numbers-requires-clause-few c = (good_table c.args.table.now c.requires).few

pub numbers_of-numbers-requires-clause-inside : goal.numbers_of-numbers-requires-clause-inside
numbers_of-numbers-requires-clause-inside c = let g
    = good_table c.args.table.now c.requires in omega (arith, g.width)

pub first_outside-requires : goal.first_outside-requires
first_outside-requires c =
    ap length (c.as_slice.ensures.value ∙ c.numbers_of-numbers.ensures)
    ∙ numbers_length c.args.bytes.now 0 c.args.table.now.fields.now

pub returns-in-None-clause-ok : goal.returns-in-None-clause-ok
returns-in-None-clause-ok c =
    let fs = c.args.table.now.fields.now in
    let o : None ≡ first_outside 0 fs c.numbers_of-numbers.result.items = c.in-None.ensures
    ∙ ap (first_outside 0 fs) c.as_slice.ensures.value in
    long_is c.args.table.now c.args.bytes.now c.numbers_of-numbers.result.items None
    (omega arith) c.numbers_of-numbers.ensures o

pub returns-in-None-clause-range : goal.returns-in-None-clause-range
returns-in-None-clause-range c =
    read_in_range c.args.table.now c.args.bytes.now c.numbers_of-numbers.result.items
    (returns-in-None-clause-ok c)

pub returns-in-Some-clause-err : goal.returns-in-Some-clause-err
returns-in-Some-clause-err c =
    let fs = c.args.table.now.fields.now in
    let o : Some c.in-Some.field ≡ first_outside 0 fs c.numbers_of-numbers.result.items
    = c.in-Some.ensures ∙ ap (first_outside 0 fs) c.as_slice.ensures.value in
    long_is c.args.table.now c.args.bytes.now c.numbers_of-numbers.result.items
    (Some c.in-Some.field) (omega arith) c.numbers_of-numbers.ensures o
