use Rattle.std.proofs.Common.{length}
use Rattle.code_tests.proofs.frames.write_frames.Given as goal

abbrev pub decreases-loop-frame : goal.decreases-loop-frame
decreases-loop-frame l = length l.deframer.rest
