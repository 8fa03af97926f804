use Rattle.std.proofs.Common.{List, ℤ, sym, subst}
use Rattle.rinex_write.specs.Layouts.{gps_kind, galileo_kind, gps_ionosphere_kind, galileo_ionosphere_kind}
use Rattle.rinex_read.specs.Mirrors.{AreGpsFields}
use Rattle.rinex_read.proofs.RangeLemmas.{gps_fields_in}
use Rattle.rinex_read.proofs.record.gps_read.Goals as goal

pub gps_item-requires : goal.gps_item-requires
unfolding gps_kind galileo_kind gps_ionosphere_kind galileo_ionosphere_kind
gps_item-requires c = subst (λ (zs : List ℤ). AreGpsFields zs) (sym c.as_slice.ensures.value) (gps_fields_in c.in_ok-said.said.fields.items c.in_ok-said.ensures.are)
