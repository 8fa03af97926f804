use Rattle.std.proofs.Common.{◌≡◌, ◌<◌, ◌^◌, take}
use Rattle.framing.specs.SbfRegister.{crc_from}
use Rattle.framing.proofs.sbf_register.crc_of.Given as goal

abbrev pub invariant-loop-byte : goal.invariant-loop-byte
invariant-loop-byte l = record {
  state : l.state ≡ crc_from 0 (take l.byte-index l.bytes);
  fits : l.state < 2 ^ 16;
}
