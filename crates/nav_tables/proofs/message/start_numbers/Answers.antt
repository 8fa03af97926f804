use Rattle.std.proofs.Common.{length, ap, ◌∙◌, ◌++◌, arith}
use Rattle.nav_tables.specs.Messages.{starts}
use Rattle.nav_tables.proofs.MessageLemmas.{good_table}
use Rattle.nav_tables.proofs.message.start_numbers.Goals as goal

pub push_starts-requires : goal.push_starts-requires
push_starts-requires c =
    let g = good_table c.args.table.now c.requires in
    omega (arith, g.few, ap length c.new-numbers.ensures)
