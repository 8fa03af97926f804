use Rattle.rinex_write.specs.RowTexts.{row_title}
use Rattle.rinex_write.proofs.RowsLeft.{title_joined}
use Rattle.rinex_write.proofs.row.append_row_record.Goals as goal

pub returns : goal.returns
returns c k class message g h =
    title_joined (row_title k c.args.head.now.letter c.args.head.now.number) _ _ _ (c.append_row_title.ensures.items k class message) (c.append_row_body.ensures k.rows g h)
