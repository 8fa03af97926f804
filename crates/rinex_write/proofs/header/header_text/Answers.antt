use Rattle.std.proofs.Common.{codes}
use Rattle.rinex_write.specs.Texts.{header_lines_by, leap_text}
use Rattle.rinex_write.proofs.RowsLeft.{header_joined}
use Rattle.rinex_write.proofs.header.header_text.Goals as goal

pub returns : goal.returns
unfolding header_lines_by
returns c =
    rw (
      c.append-8.ensures.items,
      c.append-7.ensures.items,
      c.append-6.ensures.items,
      c.append-5.ensures.items,
      c.append-4.ensures.items,
      c.append-3.ensures.items,
      c.append-2.ensures.items,
      c.append.ensures.items,
      c.new-text.ensures,
      c.leap_columns.ensures,
    )
    (header_joined c.args.version.now (codes "           N: GNSS NAV DATA    M: MIXED            RINEX VERSION / TYPE")
    (codes "navbridge                               ") c.args.words.now.date (codes " PGM / RUN BY / DATE")
    (codes "    ") (leap_text c.args.words.now.leap) (codes "                                                      LEAP SECONDS")
    (codes "                                                            END OF HEADER"))
