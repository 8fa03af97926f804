use Rattle.nav_rows.proofs.ReadLemmas.{read_again, said_again}
use Rattle.nav_rows.proofs.laws.records_of_rows_are_read.Goals as goal

pub returns : goal.returns
returns c k row more is fields moment range epoch =
    read_again k row more is fields range epoch
    (said_again k row more is fields moment c.written_rows_are_read.ensures
    c.layouts_are_rows.ensures)
