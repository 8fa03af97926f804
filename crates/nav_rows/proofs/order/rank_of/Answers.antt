use Rattle.std.proofs.Common.{◌≡◌, ◌++◌, length, sym, ap, subst, ◌∙◌, arith}
use Rattle.nav_rows.specs.Encoding.{HasClock}
use Rattle.nav_rows.proofs.EncodeLemmas.{row_is}
use Rattle.nav_rows.proofs.order.rank_of.Goals as goal

pub front_of-requires : goal.front_of-requires
front_of-requires c =
    (row_is c.args.kind.now c.args.row.now.columns.items c.requires.kind c.requires.fields).clock

pub settle-requires-clause-clock : goal.settle-requires-clause-clock
settle-requires-clause-clock c =
    let k = c.args.kind.now in
    let zs = c.args.row.now.columns.items in
    let same : c.as_mut_slice.result.now ≡ zs
    = c.as_mut_slice.ensures.value ∙ c.extended-columns.ensures
    ∙ ap (λ xs. xs ++ c.as_slice.result.now) c.new-2.ensures ∙ c.as_slice.ensures.value in
    subst (HasClock k.clock) (sym same) (row_is k zs c.requires.kind c.requires.fields).clock

pub settle-requires-clause-sent : goal.settle-requires-clause-sent
settle-requires-clause-sent c =
    let k = c.args.kind.now in
    let zs = c.args.row.now.columns.items in
    let same : c.as_mut_slice.result.now ≡ zs
    = c.as_mut_slice.ensures.value ∙ c.extended-columns.ensures
    ∙ ap (λ xs. xs ++ c.as_slice.result.now) c.new-2.ensures ∙ c.as_slice.ensures.value in
    omega (
      arith,
      ap length same,
      (row_is k zs c.requires.kind c.requires.fields).count,
      c.requires.kind.sent,
    )
