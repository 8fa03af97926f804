use Rattle.std.proofs.Common.{◌∙◌}
use Rattle.inav.proofs.WordBytes.{is_word5}
use Rattle.inav.proofs.write.write_word5.Goals as goal

pub returns-clause-bytes : goal.returns-clause-bytes
returns-clause-bytes c =
    is_word5 c.args.health.now c.args.ion.now c.args.wn c.args.second c.pack.new.into c.health_ranges.ensures c.ion_ranges.ensures
    c.word5-word.ensures.week c.word5-word.ensures.time c.are_bytes.ensures (c.pack.ensures.stands ∙ c.word5-word.ensures.fields) c.pack.ensures.rest
