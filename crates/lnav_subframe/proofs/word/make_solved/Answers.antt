use Rattle.std.proofs.Common.{◌≡◌, ◌+◌, ◌*◌, ◌/◌, ◌%◌, refl, arith}
use Rattle.lnav_subframe.specs.Parity.{IsSource}
use Rattle.lnav_subframe.specs.ParityMirrors.{IsParity}
use Rattle.lnav_subframe.proofs.Choice.{solved}
use Rattle.lnav_subframe.proofs.word.make_solved.Goals as goal

pub returns : goal.returns
returns c =
    let bits = c.args.bits in
    let last = c.args.last2 in
    let parity = c.parity_of-parity.result in
    let d24 = parity / 2 % 2 in
    let d23 = (parity + d24) % 2 in
    let shifted : c.value-source.result * 4 % 18446744073709551616 ≡ bits * 4 = omega arith in
    let is : IsParity (bits * 4) last parity = rw (shifted, c.value.ensures.same) at c.parity_of-parity.ensures in
    let all : c.from_bits.result ≡ bits * 4 + (2 * d23 + d24) = omega arith in
    let from : IsSource c.make_word.result last (bits * 4 + (2 * d23 + d24)) = rw all at c.make_word.ensures.bits in
    solved c.make_word.result last bits parity d23 d24 is refl refl c.make_word.ensures.good from
