use Rattle.std.proofs.Common.{rules}
use Rattle.nav_bits.specs.Bits.{number_at}
use Rattle.nav_bits.specs.Division.{IsCrc}
use Rattle.nav_bits.proofs.BitLemmas.{run_has_crc}
use Rattle.nav_bits.proofs.message.crc_bits.Goals as goal

pub returns-clause-value : goal.returns-clause-value
returns-clause-value g c =
    let is : IsCrc (number_at c.args.bits.now c.args.from c.args.count) c.from_bits.result = search rules in
    run_has_crc c.args.bits.now c.args.from c.args.count c.from_bits.result is
