use mir.Val.{SFits}
use Rattle.std.proofs.lemmas.Int.{to_z-of_z}
use Rattle.std.proofs.Common.{rules, to_z, of_z, w64, ◌≡◌, ◌+◌, ◌++◌, [], ◌∷◌, length, drop, get_or}
use Rattle.std.proofs.Common.{pos, sym, ap, refl, ◌∙◌, subst, arith}
use Rattle.nav_tables.specs.Fields.{bits_of, is_field}
use Rattle.nav_tables.specs.Messages.{are_fields}
use Rattle.nav_tables.proofs.FieldLemmas.{both}
use Rattle.nav_tables.proofs.LoopLemmas.{AreTold, no_field, range_length, told_all, told_at}
use Rattle.nav_tables.proofs.LoopLemmas.{reported_more}
use Rattle.nav_tables.proofs.message.bits_of_all.Goals as goal

pub loop-i-init : goal.loop-i-init
loop-i-init c = record {
  told = subst (λ all. AreTold c.args.fields.now c.args.fields.now c.args.numbers.now
      c.args.numbers.now all) (sym c.new-all.ensures)
      (record { told = refl; good = c.requires.fields; range = c.requires.numbers });
  count = ap length c.new-all.ensures;
}

pub bounds-numbers-i : goal.bounds-numbers-i
bounds-numbers-i c = omega
    (arith, range_length c.args.fields.now c.args.numbers.now c.requires.numbers)

pub bits_of-requires-clause-field : goal.bits_of-requires-clause-field
bits_of-requires-clause-field c =
    let i = c.loop-i.i in
    let fs = c.args.fields.now in
    let zs = c.args.numbers.now in
    let t = told_at i fs zs c.loop-i.all.items (omega arith)
    (omega (arith, range_length fs zs c.requires.numbers)) c.loop-i.invariant.told in
    (both (is_field (get_or fs i no_field)) (are_fields (drop (i + 1) fs)) t.good).0

pub bits_of-requires-clause-range : goal.bits_of-requires-clause-range
bits_of-requires-clause-range c =
    let i = c.loop-i.i in
    let fs = c.args.fields.now in
    let zs = c.args.numbers.now in
    let t = told_at i fs zs c.loop-i.all.items (omega arith)
    (omega (arith, range_length fs zs c.requires.numbers)) c.loop-i.invariant.told in
    let fits : SFits w64 (get_or zs i (pos 0)) = search rules in
    rw (to_z-of_z w64 (get_or zs i (pos 0)) fits) t.range.0

pub loop-i-preserved : goal.loop-i-preserved
loop-i-preserved c =
    let i = c.loop-i.i in
    let fs = c.args.fields.now in
    let zs = c.args.numbers.now in
    let f = get_or fs i no_field in
    let z = get_or zs i (pos 0) in
    let t = told_at i fs zs c.loop-i.all.items (omega arith)
    (omega (arith, range_length fs zs c.requires.numbers)) c.loop-i.invariant.told in
    let fits : SFits w64 z = search rules in
    let same : to_z w64 (of_z w64 z) ≡ z = to_z-of_z w64 z fits in
    let items = c.push.ensures.items
    ∙ ap (λ n. c.loop-i.all.items ++ (f.width, n) ∷ [])
    (c.bits_of.ensures.same ∙ ap (bits_of f) same) in
    record {
      told = subst (λ all. AreTold fs (drop (i + 1) fs) zs (drop (i + 1) zs) all) (sym items)
          (reported_more fs (drop (i + 1) fs) zs (drop (i + 1) zs) f z c.loop-i.all.items t);
      count = omega (arith, c.push.ensures.len, c.loop-i.invariant.count);
    }

pub returns : goal.returns
returns c = told_all c.loop-i.i c.args.fields.now c.args.numbers.now _ c.loop-i.all.items
    (omega arith) c.loop-i.invariant.told
