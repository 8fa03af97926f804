use Rattle.std.proofs.Common.{◌≡◌, map}
use Rattle.std.specs.Map.Iter.{deref}
use Rattle.inav.specs.Mirrors.{words_by}
use Rattle.inav.proofs.keys.words_with.Given as goal

abbrev pub invariant-loop-key : goal.invariant-loop-key
invariant-loop-key l = l.words.items ≡ words_by l.kind l.number (map deref l.yielded)
