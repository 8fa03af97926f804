use Rattle.std.proofs.Common.{sym, ap, ◌∙◌, subst, arith}
use Rattle.nav_bits.specs.Fields.{AreFields, Stand, total_width}
use Rattle.nav_tables.proofs.PieceLemmas.{fields_fit, fields_width, list_all}
use Rattle.nav_tables.proofs.pieces.put_pieces.Goals as goal

pub put_numbers-requires-clause-fields : goal.put_numbers-requires-clause-fields
put_numbers-requires-clause-fields c =
    let e = c.as_slice.ensures.value ∙ list_all c.loop-piece.piece-index c.args.pieces.now c.args.numbers.now c.loop-piece.fields.items (omega arith) c.loop-piece.invariant.listed in
    subst AreFields (sym e) (fields_fit c.args.pieces.now c.args.numbers.now c.requires.pieces)

pub put_numbers-requires-clause-inside : goal.put_numbers-requires-clause-inside
put_numbers-requires-clause-inside c =
    let e = c.as_slice.ensures.value ∙ list_all c.loop-piece.piece-index c.args.pieces.now c.args.numbers.now c.loop-piece.fields.items (omega arith) c.loop-piece.invariant.listed in
    omega (arith, c.requires.inside, ap total_width e ∙ fields_width c.args.pieces.now c.args.numbers.now)

pub returns : goal.returns
returns c =
    let e = c.as_slice.ensures.value ∙ list_all c.loop-piece.piece-index c.args.pieces.now c.args.numbers.now c.loop-piece.fields.items (omega arith) c.loop-piece.invariant.listed in
    subst (λ fs. Stand c.put_numbers.new.bytes 0 0 fs) e c.put_numbers.ensures.stand
