use Rattle.std.proofs.Common.{◌≡◌, true, length, sym, subst}
use Rattle.nav_tables.specs.Links.{are_links}
use Rattle.nav_rows.specs.Kinds.{head_links}
use Rattle.nav_rows.specs.Encoding.{HasClock}
use Rattle.nav_rows.proofs.EncodeLemmas.{row_is}
use Rattle.nav_rows.proofs.RowLemmas.{behind}
use Rattle.nav_rows.proofs.encode.write_head.Goals as goal

pub write_frame_head-requires-clause-columns : goal.write_frame_head-requires-clause-columns
write_frame_head-requires-clause-columns c =
    let cs = c.args.row.now.columns.items in
    subst (λ clock. HasClock clock cs) c.in-Frame.is
    (row_is c.args.kind.now cs c.requires.kind c.requires.fields).clock

pub write_week_head-requires-clause-toe : goal.write_week_head-requires-clause-toe
write_week_head-requires-clause-toe c =
    let cs = c.args.row.now.columns.items in
    subst (λ clock. HasClock clock cs) c.in-Weeks.is
    (row_is c.args.kind.now cs c.requires.kind c.requires.fields).clock

pub write_week_head-requires-clause-links : goal.write_week_head-requires-clause-links
write_week_head-requires-clause-links c =
    let k = c.args.kind.now in
    subst (λ clock. are_links (length c.args.numbers.now) k.parts.now (head_links clock) ≡ true)
    c.in-Weeks.is
    (subst (λ n. are_links n k.parts.now (head_links k.clock) ≡ true) (sym c.requires.count)
    (behind k c.requires.kind))
