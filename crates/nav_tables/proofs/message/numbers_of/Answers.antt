use mir.Val.{SFits}
use Rattle.std.proofs.lemmas.Int.{to_z-of_z}
use Rattle.std.proofs.Common.{rules, to_z, of_z, ◌≡◌, ◌<◌, ◌+◌, ◌^◌, ◌++◌, [], ◌∷◌, w64, length}
use Rattle.std.proofs.Common.{drop, get_or, sym, ap, ◌∙◌, subst, arith}
use Rattle.nav_bits.specs.Bits.{number_at}
use Rattle.nav_bits.specs.Laws.{number_at-lt}
use Rattle.nav_tables.specs.Fields.{number_of}
use Rattle.nav_tables.proofs.LoopLemmas.{AreRead, next_is, no_field, read_all, read_next, read_none}
use Rattle.nav_tables.proofs.LoopLemmas.{width_small}
use Rattle.nav_tables.proofs.message.numbers_of.Goals as goal

pub loop-field-init : goal.loop-field-init
loop-field-init c = record {
  read = subst (λ zs. AreRead c.args.bytes.now 0 c.args.fields.now c.args.fields.now zs)
      (sym c.new-numbers.ensures) (read_none c.args.bytes.now c.args.fields.now c.requires.fields);
  count = ap length c.new-numbers.ensures;
}

pub number_in_bytes-requires-clause-most : goal.number_in_bytes-requires-clause-most
number_in_bytes-requires-clause-most c =
    let next = next_is c.args.bytes.now c.loop-field.at c.loop-field.field-index c.args.fields.now
    c.loop-field.numbers.items (omega arith) c.loop-field.invariant.read in
    omega (arith, next.most)

pub number_in_bytes-requires-clause-inside : goal.number_in_bytes-requires-clause-inside
number_in_bytes-requires-clause-inside c =
    let next = next_is c.args.bytes.now c.loop-field.at c.loop-field.field-index c.args.fields.now
    c.loop-field.numbers.items (omega arith) c.loop-field.invariant.read in
    omega (arith, next.room)

pub number_of-requires-clause-field : goal.number_of-requires-clause-field
number_of-requires-clause-field c =
    (next_is c.args.bytes.now c.loop-field.at c.loop-field.field-index c.args.fields.now
    c.loop-field.numbers.items (omega arith) c.loop-field.invariant.read).good

pub number_of-requires-clause-fits : goal.number_of-requires-clause-fits
number_of-requires-clause-fits c =
    let f = get_or c.args.fields.now c.loop-field.field-index no_field in
    subst (λ n. n < 2 ^ f.width) (sym c.number_in_bytes.ensures)
    (number_at-lt c.args.bytes.now c.loop-field.at f.width)

pub overflow_add-at : goal.overflow_add-at
overflow_add-at c =
    let next = next_is c.args.bytes.now c.loop-field.at c.loop-field.field-index c.args.fields.now
    c.loop-field.numbers.items (omega arith) c.loop-field.invariant.read in
    omega (arith, next.room, width_small c.args.fields.now c.requires.fields, c.requires.few)

pub loop-field-preserved : goal.loop-field-preserved
loop-field-preserved c =
    let i = c.loop-field.field-index in
    let fields = c.args.fields.now in
    let f = get_or fields i no_field in
    let number : c.number_of.result ≡ number_of f
    (number_at c.args.bytes.now c.loop-field.at f.width) = c.number_of.ensures
    ∙ ap (number_of f) c.number_in_bytes.ensures in
    let fits : SFits w64 c.number_of.result = search rules in
    let same : to_z w64 (of_z w64 c.number_of.result) ≡ c.number_of.result
    = to_z-of_z w64 c.number_of.result fits in
    let items = c.push.ensures.items ∙ ap (λ z. c.loop-field.numbers.items ++ z ∷ []) same
    ∙ ap (λ z. c.loop-field.numbers.items ++ z ∷ []) number in
    record {
      read = subst (λ zs. AreRead c.args.bytes.now (c.loop-field.at + f.width) fields
          (drop (i + 1) fields) zs) (sym items)
          (read_next c.args.bytes.now c.loop-field.at i fields c.loop-field.numbers.items
          (omega arith) c.loop-field.invariant.read);
      count = omega (arith, c.push.ensures.len, c.loop-field.invariant.count);
    }

pub returns : goal.returns
returns c =
    read_all c.args.bytes.now c.loop-field.at c.loop-field.field-index c.args.fields.now
    c.loop-field.numbers.items (omega arith) c.loop-field.invariant.read
