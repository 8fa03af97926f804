use Rattle.std.proofs.Common.{◌≡◌, ◌<◌, ◌++◌, subst, ap, ◌∙◌, length, map}
use Rattle.nav_eph.specs.Functions.{civil_to}
use Rattle.rinex_write.specs.Texts.{date_text, title_line}
use Rattle.rinex_write.proofs.RowsLeft.{record_joined}
use Rattle.rinex_write.proofs.item.append_record.Goals as goal

pub returns : goal.returns
returns c k e f g h =
    let date : c.date_columns.result ≡ date_text (civil_to c.args.moment) = c.date_columns.ensures ∙ ap date_text c.civil.ensures.value in
    let some : 0 < length (map length k.rows) = subst (λ a. 0 < length a) h c.requires.table.some in
    record_joined (title_line k c.args.sat.now) _ _ _ _ _ _ k.rows c.args.fields.now some (c.append_title.ensures.items k e f) c.append.ensures.items
    (c.append-2.ensures.items ∙ ap (λ a. c.append.new.text.items ++ a) date) (c.append_table.ensures k.rows g h)
