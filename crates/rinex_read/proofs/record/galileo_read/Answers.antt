use Rattle.std.proofs.Common.{List, ℤ, sym, subst}
use Rattle.rinex_write.specs.Layouts.{gps_kind, galileo_kind, gps_ionosphere_kind, galileo_ionosphere_kind}
use Rattle.rinex_read.specs.Mirrors.{AreGalileoFields}
use Rattle.rinex_read.proofs.RangeLemmas.{galileo_fields_in}
use Rattle.rinex_read.proofs.record.galileo_read.Goals as goal

pub galileo_item-requires : goal.galileo_item-requires
unfolding gps_kind galileo_kind gps_ionosphere_kind galileo_ionosphere_kind
galileo_item-requires c = subst (λ (zs : List ℤ). AreGalileoFields zs) (sym c.as_slice.ensures.value) (galileo_fields_in c.in_ok-said.said.fields.items c.in_ok-said.ensures.are)
