use Rattle.std.proofs.Common.{◌≡◌, sym, subst, ◌∙◌}
use Rattle.periods.specs.declared.closed.Finding.TheVariants.{Misses}
use Rattle.periods.specs.declared.digest.Digest.{Digest}
use Rattle.periods.specs.DigestsOf.{digest_finding}
use Rattle.periods.proofs.LackLemmas.{gps_lacking, gal_lacking}
use Rattle.periods.proofs.digest.Digest.lacks_parts.Goals as goal

pub returns-in-Gps : goal.returns-in-Gps
returns-in-Gps c = λ e r key health.
    subst (λ (x : Digest). digest_finding r key x health ≡ Misses) (sym c.in-Gps.is) (gps_lacking c.in-Gps.d (sym c.lacks_gps.ensures ∙ e) r key health)

pub returns-in-Gal : goal.returns-in-Gal
returns-in-Gal c = λ e r key health.
    subst (λ (x : Digest). digest_finding r key x health ≡ Misses) (sym c.in-Gal.is) (gal_lacking c.in-Gal.d (sym c.lacks_gal.ensures ∙ e) r key health)
