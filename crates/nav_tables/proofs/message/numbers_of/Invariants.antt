use Rattle.std.proofs.Common.{◌≡◌, length, drop}
use Rattle.nav_tables.proofs.LoopLemmas.{AreRead}
use Rattle.nav_tables.proofs.message.numbers_of.Given as goal

abbrev pub invariant-loop-field : goal.invariant-loop-field
invariant-loop-field l = record {
  read : AreRead l.bytes l.at l.fields (drop l.field-index l.fields) l.numbers.items;
  count : length l.numbers.items ≡ l.field-index;
}
