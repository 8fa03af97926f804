use Rattle.std.proofs.Common.{◌≡◌, ◌<◌, ◌^◌, drop}
use Rattle.nav_bits.specs.Register.{crc_from}
use Rattle.nav_bits.proofs.register.after_bytes.Given as goal

abbrev pub invariant-loop-byte : goal.invariant-loop-byte
invariant-loop-byte l = (crc_from l.state (drop l.byte-index l.byte-items) ≡ crc_from 0 l.bytes) × (l.state < 2 ^ 24)
