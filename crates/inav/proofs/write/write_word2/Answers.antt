use Rattle.inav.proofs.WordBytes.{is_word2}
use Rattle.inav.proofs.write.write_word2.Goals as goal

pub returns-clause-bytes : goal.returns-clause-bytes
returns-clause-bytes c = is_word2 c.args.w.now c.pack.new.into c.word2_ranges.ensures c.are_bytes.ensures c.pack.ensures.stands c.pack.ensures.rest
