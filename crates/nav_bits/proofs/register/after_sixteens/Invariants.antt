use Rattle.std.proofs.Common.{◌≡◌, ◌<◌, ◌*◌, ◌^◌, drop}
use Rattle.nav_bits.specs.Register.{crc_from}
use Rattle.nav_bits.proofs.register.after_sixteens.Given as goal

abbrev pub invariant-loop-i : goal.invariant-loop-i
invariant-loop-i l = (crc_from l.state (drop (16 * l.i) l.bytes) ≡ crc_from 0 l.bytes) × (l.state < 2 ^ 24)
