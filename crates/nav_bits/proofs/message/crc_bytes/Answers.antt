use Rattle.std.proofs.Common.{◌*◌, length, ◌≡◌, subst, sym}
use Rattle.nav_bits.specs.Bits.{number_at}
use Rattle.nav_bits.specs.Division.{IsCrc}
use Rattle.nav_bits.specs.Register.{crc_from}
use Rattle.nav_bits.proofs.MessageLemmas.{crc_of_bytes}
use Rattle.nav_bits.proofs.message.crc_bytes.Goals as goal

pub returns-clause-crc : goal.returns-clause-crc
returns-clause-crc c =
    let value : c.from_bits.result ≡ crc_from 0 c.args.bytes.now = cc in
    subst (IsCrc (number_at c.args.bytes.now 0 (8 * length c.args.bytes.now))) (sym value) (crc_of_bytes c.args.bytes.now)
