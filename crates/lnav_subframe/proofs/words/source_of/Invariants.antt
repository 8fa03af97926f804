use Rattle.std.proofs.Common.{◌≡◌, ◌*◌, ◌<◌}
use Rattle.lnav_subframe.specs.Words.{AreGood, AreSource, last_before}
use Rattle.lnav_subframe.proofs.Places.{StayFrom}
use Rattle.lnav_subframe.proofs.words.source_of.Given as goal

abbrev pub invariant-loop-k : goal.invariant-loop-k
invariant-loop-k l = record {
  good : AreGood l.bits l.k;
  source : AreSource l.bits l.source l.k;
  stay : StayFrom l.bits l.source (30 * l.k);
  last : l.last ≡ last_before l.bits l.k;
  fits : l.last < 4;
}
