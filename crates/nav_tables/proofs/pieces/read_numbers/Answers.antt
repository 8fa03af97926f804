use Rattle.std.proofs.Common.{◌≡◌, ◌+◌, ◌*◌, ◌%◌, ◌^◌, drop, get_or, set, sym, ap, ◌∙◌, subst, arith}
use Rattle.std.proofs.Math.Nat.{mod-eq_of_lt}
use Rattle.nav_bits.specs.Bits.{number_at}
use Rattle.nav_tables.proofs.PieceLemmas.{AreAdded, add_all, add_more, add_next, add_none, next_is, no_piece}
use Rattle.nav_tables.proofs.pieces.read_numbers.Goals as goal

pub loop-piece-init : goal.loop-piece-init
loop-piece-init c = add_none c.args.bytes.now c.args.pieces.now c.requires.pieces

pub number_in_bytes-bits-requires-clause-most : goal.number_in_bytes-bits-requires-clause-most
number_in_bytes-bits-requires-clause-most c =
    let a = add_next c.args.bytes.now c.loop-piece.at c.loop-piece.piece-index c.args.pieces.now c.loop-piece.numbers (omega arith) c.loop-piece.invariant in
    let n = next_is c.args.bytes.now c.loop-piece.at c.args.pieces.now _ _ c.loop-piece.numbers c.requires.pieces a in
    omega (arith, n.most)

pub number_in_bytes-bits-requires-clause-inside : goal.number_in_bytes-bits-requires-clause-inside
number_in_bytes-bits-requires-clause-inside c =
    let a = add_next c.args.bytes.now c.loop-piece.at c.loop-piece.piece-index c.args.pieces.now c.loop-piece.numbers (omega arith) c.loop-piece.invariant in
    let n = next_is c.args.bytes.now c.loop-piece.at c.args.pieces.now _ _ c.loop-piece.numbers c.requires.pieces a in
    omega (arith, n.room)

pub overflow_add-numbers : goal.overflow_add-numbers
overflow_add-numbers c =
    let i = c.loop-piece.piece-index in
    let p = get_or c.args.pieces.now i no_piece in
    let a = add_next c.args.bytes.now c.loop-piece.at i c.args.pieces.now c.loop-piece.numbers (omega arith) c.loop-piece.invariant in
    let n = next_is c.args.bytes.now c.loop-piece.at c.args.pieces.now _ p c.loop-piece.numbers c.requires.pieces a in
    let e : c.number_in_bytes-bits.result * 2 ^ p.low ≡ number_at c.args.bytes.now c.loop-piece.at p.width * 2 ^ p.low = ap (λ b. b * 2 ^ p.low) c.number_in_bytes-bits.ensures in
    let same : c.number_in_bytes-bits.result * 2 ^ p.low % 18446744073709551616 ≡ c.number_in_bytes-bits.result * 2 ^ p.low = mod-eq_of_lt (omega (arith, e, n.small)) in
    omega (arith, e, same, n.sum)

pub loop-piece-preserved : goal.loop-piece-preserved
loop-piece-preserved c =
    let i = c.loop-piece.piece-index in
    let pieces = c.args.pieces.now in
    let bytes = c.args.bytes.now in
    let p = get_or pieces i no_piece in
    let a = add_next bytes c.loop-piece.at i pieces c.loop-piece.numbers (omega arith) c.loop-piece.invariant in
    let n = next_is bytes c.loop-piece.at pieces _ p c.loop-piece.numbers c.requires.pieces a in
    let e : c.number_in_bytes-bits.result * 2 ^ p.low ≡ number_at bytes c.loop-piece.at p.width * 2 ^ p.low = ap (λ b. b * 2 ^ p.low) c.number_in_bytes-bits.ensures in
    let same : c.number_in_bytes-bits.result * 2 ^ p.low % 18446744073709551616 ≡ c.number_in_bytes-bits.result * 2 ^ p.low = mod-eq_of_lt (omega (arith, e, n.small)) in
    subst (λ x. AreAdded bytes (c.loop-piece.at + p.width) pieces (drop (i + 1) pieces) (set c.loop-piece.numbers p.number (get_or c.loop-piece.numbers p.number 0 + x)))
    (sym (same ∙ e)) (add_more bytes c.loop-piece.at pieces (drop (i + 1) pieces) p c.loop-piece.numbers a)

pub returns : goal.returns
returns c = add_all c.args.bytes.now c.loop-piece.at c.loop-piece.piece-index c.args.pieces.now c.loop-piece.numbers (omega arith) c.loop-piece.invariant
