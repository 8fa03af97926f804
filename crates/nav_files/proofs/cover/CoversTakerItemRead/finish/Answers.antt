use Rattle.std.proofs.Common.{[], ap}
use Rattle.std.specs.List.{flat_map}
use Rattle.rinex_read.specs.Files.{items_of}
use Rattle.nav_files.specs.Archives.{cover_line}
use Rattle.nav_files.proofs.KeptLemmas.{finish_as}
use Rattle.nav_files.proofs.cover.CoversTakerItemRead.finish.Goals as goal

pub returns-clause-output : goal.returns-clause-output
returns-clause-output g c = λ reads start held so_far.
    finish_as [] _ _ start _ _ _ _ _ (ap (flat_map cover_line) (c.covering.ensures.only (items_of reads) c.args.state.now.cover held.2)) so_far c.write_ranges.ensures
