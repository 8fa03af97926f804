use Rattle.std.proofs.Common.{◌≡◌, ◌∙◌}
use Rattle.inav.specs.Writing.{written_word1}
use Rattle.inav.proofs.WordBytes.{is_word1}
use Rattle.inav.proofs.write.write_word1.Goals as goal

pub returns-clause-bytes : goal.returns-clause-bytes
returns-clause-bytes c =
    let toe : c.from_bits.result ≡ c.args.w.now.toe = cc in
    is_word1 c.args.w.now c.pack.new.into c.word1_ranges.ensures c.are_bytes.ensures
    (c.pack.ensures.stands ∙ (λ i. record (written_word1 c.args.w.now) { toe = toe i })) c.pack.ensures.rest
