use Rattle.std.proofs.lemmas.Nat.{xor_lt}
use Rattle.receiver_log.proofs.words.inverted.Goals as goal

pub returns-then-last-eq1-clause-fits : goal.returns-then-last-eq1-clause-fits
returns-then-last-eq1-clause-fits c =
    xor_lt 30 c.args.word c.args.mask c.requires.word c.requires.mask
