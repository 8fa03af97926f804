use Rattle.std.proofs.Common.{sym, ap, ◌∙◌}
use Rattle.periods.specs.declared.digest.Digest.{Digest}
use Rattle.periods.specs.declared.digest.Digest.TheVariants.{Gps, Gal}
use Rattle.periods.specs.DigestsOf.{digest_join}
use Rattle.periods.proofs.AddLemmas.{gps_with, gal_with, gps_kept, gal_kept}
use Rattle.periods.proofs.digest.Digest.add.Goals as goal

pub returns-in-Gps : goal.returns-in-Gps
returns-in-Gps c = record {
  some = λ one e. ap Gps c.add_to_gps.ensures ∙ (gps_with c.in-Gps.digest c.args.part.now one e ∙ ap (λ (x : Digest). digest_join x one) (sym c.in-Gps.is));
  none = λ e. ap Gps c.add_to_gps.ensures ∙ (ap Gps (gps_kept c.in-Gps.digest c.args.part.now e) ∙ sym c.in-Gps.is);
}

pub returns-in-Gal : goal.returns-in-Gal
returns-in-Gal c = record {
  some = λ one e. ap Gal c.add_to_gal.ensures ∙ (gal_with c.in-Gal.digest c.args.part.now one e ∙ ap (λ (x : Digest). digest_join x one) (sym c.in-Gal.is));
  none = λ e. ap Gal c.add_to_gal.ensures ∙ (ap Gal (gal_kept c.in-Gal.digest c.args.part.now e) ∙ sym c.in-Gal.is);
}
