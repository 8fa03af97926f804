use Rattle.std.proofs.Common.{◌≡◌}
use Rattle.rinex_read.specs.declared.judged.HeaderState.TheVariants.{Passed}
use Rattle.text_tests.proofs.rinex4_tests.gives.Given as goal

abbrev pub invariant-loop-read : goal.invariant-loop-read
invariant-loop-read l = l.records.header ≡ Passed
