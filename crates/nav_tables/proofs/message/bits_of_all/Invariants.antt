use Rattle.std.proofs.Common.{◌≡◌, length, drop}
use Rattle.nav_tables.proofs.LoopLemmas.{AreTold}
use Rattle.nav_tables.proofs.message.bits_of_all.Given as goal

abbrev pub invariant-loop-i : goal.invariant-loop-i
invariant-loop-i l = record {
  told : AreTold l.fields (drop l.i l.fields) l.numbers (drop l.i l.numbers) l.all.items;
  count : length l.all.items ≡ l.i;
}
