use Rattle.std.proofs.Common.{◌≡◌, ◌++◌, true, length, sym, ap, subst, ◌∙◌, arith}
use Rattle.nav_tables.proofs.Surface.{starts_length}
use Rattle.nav_tables.specs.Links.{AreSmall, are_links}
use Rattle.nav_rows.specs.Encoding.{HasClock, known}
use Rattle.nav_rows.proofs.EncodeLemmas.{known_length, known_small, row_is}
use Rattle.nav_rows.proofs.RowLemmas.{front}
use Rattle.nav_rows.proofs.encode.write_numbers.Goals as goal

pub epoch_fault-requires : goal.epoch_fault-requires
epoch_fault-requires c =
    let k = c.args.kind.now in
    subst (HasClock k.clock) (sym c.as_slice-columns.ensures.value)
    (row_is k c.args.row.now.columns.items c.requires.kind c.requires.fields).clock

pub fill_numbers-requires-clause-links : goal.fill_numbers-requires-clause-links
fill_numbers-requires-clause-links c =
    let k = c.args.kind.now in
    let count = ap length c.requires.starts ∙ starts_length k.table.fields.now in
    subst (λ n. are_links n k.parts.now k.links.now ≡ true) (sym count) (front k c.requires.kind)

pub fill_numbers-requires-clause-columns : goal.fill_numbers-requires-clause-columns
fill_numbers-requires-clause-columns c =
    let k = c.args.kind.now in
    let fields = c.args.row.now.columns.items in
    let are : c.as_slice.result.now ≡ known k.layout.columns.now fields = c.as_slice.ensures.value
    ∙ c.push_known.ensures
    ∙ ap (λ xs. xs ++ known k.layout.columns.now c.as_slice-columns.result.now)
    c.new-known.ensures
    ∙ ap (known k.layout.columns.now) c.as_slice-columns.ensures.value in
    ap length are ∙ known_length k.layout.columns.now fields c.requires.fields
    ∙ (row_is k fields c.requires.kind c.requires.fields).count

pub fill_numbers-requires-clause-small : goal.fill_numbers-requires-clause-small
fill_numbers-requires-clause-small c =
    let k = c.args.kind.now in
    let fields = c.args.row.now.columns.items in
    let are : c.as_slice.result.now ≡ known k.layout.columns.now fields = c.as_slice.ensures.value
    ∙ c.push_known.ensures
    ∙ ap (λ xs. xs ++ known k.layout.columns.now c.as_slice-columns.result.now)
    c.new-known.ensures
    ∙ ap (known k.layout.columns.now) c.as_slice-columns.ensures.value in
    subst AreSmall (sym are) (known_small k.layout.columns.now fields c.requires.fields
    (row_is k fields c.requires.kind c.requires.fields).small)

pub write_head-requires-clause-count : goal.write_head-requires-clause-count
write_head-requires-clause-count c =
    let count = ap length c.requires.starts ∙ starts_length c.args.kind.now.table.fields.now in
    omega (arith, count, c.fill_numbers.ensures.count)

pub judged-requires-clause-count : goal.judged-requires-clause-count
judged-requires-clause-count c =
    let count = ap length c.requires.starts ∙ starts_length c.args.kind.now.table.fields.now in
    omega (arith, count, c.fill_numbers.ensures.count, c.write_head.ensures.count)
