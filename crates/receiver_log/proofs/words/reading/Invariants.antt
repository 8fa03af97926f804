use Rattle.std.proofs.Common.{◌≡◌, ◌++◌, length, take, drop}
use Rattle.receiver_log.specs.Words.{reading_behind, reading}
use Rattle.receiver_log.proofs.words.reading.Given as goal

abbrev pub invariant-loop-i : goal.invariant-loop-i
invariant-loop-i l = record {
  count : length l.read ≡ 10;
  words : take l.i l.read ++ reading_behind l.mask l.last (drop l.i l.words)
      ≡ reading l.mask l.words;
}
