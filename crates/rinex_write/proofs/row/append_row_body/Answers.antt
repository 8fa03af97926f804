use Rattle.std.proofs.Common.{◌≡◌, ◌<◌, ◌++◌, ◌∷◌, [], subst, ap, ◌∙◌, length, map}
use Rattle.nav_eph.specs.Functions.{civil_to}
use Rattle.rinex_write.specs.RowTexts.{row_satellite}
use Rattle.rinex_write.specs.Texts.{date_text}
use Rattle.rinex_write.proofs.RowsLeft.{body_joined}
use Rattle.rinex_write.proofs.row.append_row_body.Goals as goal

pub returns : goal.returns
returns c rows g h =
    let date : c.date_columns.result ≡ date_text (civil_to c.args.moment) = c.date_columns.ensures ∙ ap date_text c.civil.ensures.value in
    let some : 0 < length (map length rows) = subst (λ a. 0 < length a) h c.requires.table.some in
    body_joined c.args.text.now.items (row_satellite c.args.head.now.letter c.args.head.now.number ++ 32 ∷ []) _ _ _ _ rows c.args.fields.now some
    (c.append.ensures.items ∙ ap (λ a. c.args.text.now.items ++ a) c.row_start.ensures)
    (c.append-2.ensures.items ∙ ap (λ a. c.append.new.text.items ++ a) date) (c.append_table.ensures rows g h)
