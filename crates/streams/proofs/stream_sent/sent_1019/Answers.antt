use Rattle.std.proofs.Common.{◌∙◌, arith}
use Rattle.rtcm_eph.specs.RoundTrip.{Begins1019}
use Rattle.rtcm_eph.specs.Writing.{bytes_1019}
use Rattle.streams.proofs.SentLemmas.{whole}
use Rattle.streams.proofs.stream_sent.sent_1019.Goals as goal

pub returns : goal.returns
returns c =
    let e = c.args.eph.now in
    let payload = c.args.payload.now in
    let sent = bytes_1019 e in
    let size = c.message_bytes.ensures.size_1019 e in
    let begins : Begins1019 sent e = record {
      long = omega (arith, size.count_is);
      fields = c.message_bytes.ensures.fields_1019 e c.gps_ranges.ensures;
    } in
    let prefix = c.read_1019_is_sent.ensures e payload sent c.requires.read.0
    (record { each = λ k. omega (arith, c.type_inv.payload k) }) (record { each = size.fit })
    c.requires.read.1 begins size.count_is in
    c.bits_of.ensures ∙ whole 61 payload sent c.if-payload-ne61.false prefix
