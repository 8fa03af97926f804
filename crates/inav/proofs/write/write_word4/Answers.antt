use Rattle.std.proofs.Common.{◌≡◌, ◌∙◌, arith}
use Rattle.inav.specs.Writing.{written_word4}
use Rattle.inav.proofs.WordBytes.{is_word4}
use Rattle.inav.proofs.write.write_word4.Goals as goal

pub returns-clause-bytes : goal.returns-clause-bytes
returns-clause-bytes c =
    let svid : c.from_bits.result ≡ c.args.sat.number = cc in
    let toc : c.from_bits-2.result ≡ c.args.w.now.toc = cc in
    is_word4 c.args.w.now c.args.sat.number c.pack.new.into c.word4_ranges.ensures (omega arith) c.are_bytes.ensures
    (c.pack.ensures.stands ∙ (λ i. record (written_word4 c.args.w.now c.args.sat.number) { svid = svid i; toc = toc i })) c.pack.ensures.rest
