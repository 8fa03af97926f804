use Rattle.std.proofs.Common.{◌≡◌, ◌∙◌}
use Rattle.inav.specs.Writing.{written_word3}
use Rattle.inav.proofs.WordBytes.{is_word3}
use Rattle.inav.proofs.write.write_word3.Goals as goal

pub returns-clause-bytes : goal.returns-clause-bytes
returns-clause-bytes c =
    let sisa : c.from_bits.result ≡ c.args.w.now.sisa = cc in
    is_word3 c.args.w.now c.pack.new.into c.word3_ranges.ensures c.are_bytes.ensures
    (c.pack.ensures.stands ∙ (λ i. record (written_word3 c.args.w.now) { sisa = sisa i })) c.pack.ensures.rest
