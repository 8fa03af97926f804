use Rattle.std.proofs.Common.{◌/◌, ◌%◌, arith}
use Rattle.std.proofs.lemmas.Nat.{xor_lt}
use Rattle.inav.proofs.page.remainder.Goals as goal

pub returns-else-half-lt-ODD-clause-fits : goal.returns-else-half-lt-ODD-clause-fits
returns-else-half-lt-ODD-clause-fits c =
    xor_lt 24 c.crc_of_odd.result (c.args.half / 16384 % 16777216) c.crc_of_odd.ensures.fits (omega arith)
