use Rattle.std.proofs.Common.{◌≡◌}
use Rattle.rinex_read.specs.declared.judged.HeaderState.TheVariants.{Passed}
use Rattle.text_tests.proofs.rinex3_tests.reads_to.Given as goal

abbrev pub invariant-loop-want : goal.invariant-loop-want
invariant-loop-want l = l.records.header ≡ Passed
