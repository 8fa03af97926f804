use Rattle.std.proofs.Common.{◌≡◌, pos}
use Rattle.nav_bits.specs.Signed.{signed_of}
use Rattle.sent_captures.proofs.slot.nothing_stated.Goals as goal

pub returns : goal.returns
unfolding signed_of
returns c =
    let a = c.from_bits.ensures in
    let b : c.from_bits-2.result ≡ pos 0 = c.from_bits-2.ensures in
    let d : c.from_bits-3.result ≡ pos 0 = c.from_bits-3.ensures in
    let e = c.from_bits-4.ensures in
    λ i. record { ai0 = a i; ai1 = b i; ai2 = d i; regions = e i }
