use Rattle.std.specs.Prelude.{nat_lt}
use Rattle.capture_lines.proofs.HexPairs.{IsDecoded}
use Rattle.capture_lines.proofs.digits.decode.Given as goal

abbrev pub invariant-bytes : goal.invariant-bytes
invariant-bytes l = IsDecoded l.digits l.into l.i (nat_lt l.all 16)
