use Rattle.std.proofs.Common.{◌≡◌, take}
use Rattle.inav.specs.Mirrors.{words_of_numbers}
use Rattle.inav.proofs.numbers.words_among.Given as goal

abbrev pub invariant-loop-number : goal.invariant-loop-number
invariant-loop-number l = l.words.items ≡ words_of_numbers l.kind l.own (take l.number-index l.numbers)
