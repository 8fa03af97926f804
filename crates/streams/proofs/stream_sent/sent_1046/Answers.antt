use Rattle.std.proofs.Common.{arith, subst, List, ℕ}
use Rattle.nav_bits.specs.Bits.{Puts}
use Rattle.rtcm_eph.specs.RoundTrip.{Begins1046}
use Rattle.rtcm_eph.specs.Writing.{bytes_1046}
use Rattle.streams.proofs.SentLemmas.{same_message}
use Rattle.streams.proofs.stream_sent.sent_1046.Goals as goal

pub returns : goal.returns
returns c =
    let e = c.args.eph.now in
    let payload = c.args.payload.now in
    let sent = bytes_1046 e in
    let size = c.message_bytes.ensures.size_1046 e in
    let begins : Begins1046 sent e = record {
      long = omega (arith, size.count_is);
      fields = c.message_bytes.ensures.fields_1046 e c.gal_ranges.ensures;
    } in
    let like = c.read_1046_is_sent.ensures e payload sent c.requires.read.0
    c.requires.read.1 begins in
    let zeros = c.message_bytes.ensures.zeros_1046 e c.gal_ranges.ensures in
    let puts = subst (λ (l : List ℕ). Puts l c.put.new.self 502 2 0) c.bits_of-bits.ensures
    c.put.ensures in
    same_message payload c.put.new.self sent puts c.are_bytes.ensures size like zeros.0
