use Rattle.std.proofs.Common.{◌≡◌, ◌<◌}
use Rattle.nav_bits.specs.Bits.{number_at}
use Rattle.lnav_subframe.specs.Words.{last_before}
use Rattle.lnav_subframe.proofs.Places.{WordsBelow}
use Rattle.lnav_subframe.proofs.words.words_of.Given as goal

abbrev pub invariant-loop-k : goal.invariant-loop-k
invariant-loop-k l = record {
  words : WordsBelow l.source l.bits l.k;
  behind : number_at l.bits 300 4 ≡ 0;
  last : l.before ≡ last_before l.bits l.k;
  fits : l.before < 4;
}
