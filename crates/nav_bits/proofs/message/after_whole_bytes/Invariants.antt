use Rattle.std.proofs.Common.{◌*◌}
use Rattle.nav_bits.specs.Bits.{number_at}
use Rattle.nav_bits.specs.Division.{IsCrc}
use Rattle.nav_bits.proofs.message.after_whole_bytes.Given as goal

abbrev pub invariant-loop-i : goal.invariant-loop-i
invariant-loop-i l = IsCrc (number_at l.bytes l.from (8 * l.i)) l.state
