use Rattle.std.proofs.Common.{[], ◌∷◌}
use Rattle.nav_eph.specs.declared.items.NavItem.TheVariants.{Gal, Gps}
use Rattle.rinex_read.specs.Form3.{rinex3}
use Rattle.rinex_write.specs.Texts.{body_lines}
use Rattle.c_calls.proofs.RecordsAgain.{stands_again, version4_again}
use Rattle.c_calls.proofs.laws.records_come_back.Goals as goal

pub returns : goal.returns
returns c = record {
  version4 = version4_again c.records_are_read.ensures;
  gps = λ e is. stands_again rinex3 (body_lines (Gps e)) (Gps e) (c.records3_are_read.ensures (Gps e ∷ []) (is, tt)).0;
  galileo = λ e is. stands_again rinex3 (body_lines (Gal e)) (Gal e) (c.records3_are_read.ensures (Gal e ∷ []) (is, tt)).0;
}
