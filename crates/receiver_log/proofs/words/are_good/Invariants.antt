use Rattle.std.proofs.Common.{◌≡◌, drop}
use Rattle.receiver_log.specs.Words.{are_good_behind, are_good}
use Rattle.receiver_log.proofs.words.are_good.Given as goal

abbrev pub invariant-loop-word : goal.invariant-loop-word
invariant-loop-word l = are_good l.words ≡ are_good_behind l.last (drop l.word-index l.words)
