-- The periods of some parts, worked out by hand.
use Rattle.std.proofs.Common.{◌≡◌, ℕ, [], ◌∷◌, pos, negsuc, ◌+◌, ◌*◌, refl}
use Rattle.nav_eph.specs.Satellite.{Satellite}
use Rattle.nav_eph.specs.declared.sat.System.TheVariants.{Gps as OfGps}
use Rattle.nav_eph.specs.declared.gps.GpsClock.{GpsClock}
use Rattle.nav_eph.specs.declared.gps.GpsSide.{GpsSide}
use Rattle.nav_eph.specs.declared.gps.GpsOrbitA.{GpsOrbitA}
use Rattle.nav_eph.specs.declared.gps.GpsOrbitB.{GpsOrbitB}
use Rattle.nav_eph.specs.declared.ion.GpsIon.{GpsIon as GpsIonosphere}
use Rattle.nav_eph.specs.declared.ion.IonContent.TheVariants.{Gps as ContentGps}
use Rattle.nav_eph.specs.declared.part.Part.{Part}
use Rattle.nav_eph.specs.declared.part.Body.TheVariants.{GpsClock as OfClock, GpsA as OfOrbitA, GpsB as OfOrbitB, GpsIon as OfGpsIon}
use Rattle.nav_eph.specs.declared.tag.SentTag.TheVariants.{Sent}
use Rattle.nav_eph.specs.declared.items.SentSecond.TheVariants.{At}
use Rattle.nav_eph.specs.declared.items.NavItem.TheVariants.{Gps as GpsItem, Ion as IonItem}
use Rattle.periods.specs.declared.key.PeriodKey.TheVariants.{Gps, GpsIon}
use Rattle.periods.specs.declared.closed.Verdict.TheVariants.{Whole, Partial}
use Rattle.nav_eph.specs.Functions.{gps_week_to, moment_near}
use Rattle.periods.specs.PeriodsOf.{periods_of}

g05 : Satellite
g05 = record { system = OfGps; number = 5 }

g07 : Satellite
g07 = record { system = OfGps; number = 7 }

a_clock : GpsClock
a_clock = record { iodc = 0; toc = 0; af2 = pos 0; af1 = pos 0; af0 = pos 0; tgd = pos 0 }

a_side : GpsSide
a_side = record { l2_code = 0; ura = 0; health = 0; l2p = 0 }

an_orbit_a : ℕ → GpsOrbitA
an_orbit_a toe = record { iode = 0; crs = pos 0; delta_n = pos 0; m0 = pos 0; cuc = pos 0; e = 0; cus = pos 0; root_a = 0; toe = toe }

an_orbit_b : GpsOrbitB
an_orbit_b = record { iode = 0; cic = pos 0; omega0 = pos 0; cis = pos 0; i0 = pos 0; crc = pos 0; omega = pos 0; omega_dot = pos 0; idot = pos 0 }

clock_at : ℕ → Part
clock_at s = record { stamp = s; sat = g05; body = OfClock a_clock a_side (Sent 247 604794) }

orbit_a_at : ℕ → Part
orbit_a_at s = record { stamp = s; sat = g05; body = OfOrbitA (an_orbit_a 0) 0 }

orbit_b_at : ℕ → Part
orbit_b_at s = record { stamp = s; sat = g05; body = OfOrbitB an_orbit_b }

ion : GpsIonosphere
ion = record { alpha0 = pos 11; alpha1 = pos 0; alpha2 = pos 0; alpha3 = pos 0; beta0 = pos 44; beta1 = pos 0; beta2 = pos 0; beta3 = pos 0 }

ion_from : Satellite → ℕ → Part
ion_from sat s = record { stamp = s; sat = sat; body = OfGpsIon ion 18 }

-- sent in the last subframe of week 2295, with toe at the start of a week: toe is in week 2296
whole : periods_of 2295 7200 (clock_at 0 ∷ orbit_a_at 7200 ∷ orbit_b_at 14400 ∷ [])
    ≡ record { end = 14400; key = Gps g05 0; verdict = Whole (GpsItem (record { sat = g05; clock = a_clock; side = a_side; a = an_orbit_a 0; fit = 0; b = an_orbit_b; toe_week = 2296; sent = At (negsuc 5) })) } ∷ []
unfolding periods_of gps_week_to moment_near clock_at orbit_a_at orbit_b_at a_clock a_side an_orbit_a an_orbit_b g05
whole = refl

apart : periods_of 2295 7200 (orbit_a_at 7201 ∷ clock_at 0 ∷ [])
    ≡ record { end = 0; key = Gps g05 0; verdict = Partial } ∷ record { end = 7201; key = Gps g05 0; verdict = Partial } ∷ []
unfolding periods_of gps_week_to moment_near clock_at orbit_a_at orbit_b_at a_clock a_side an_orbit_a an_orbit_b g05
apart = refl

ionosphere : periods_of 2295 7200 (ion_from g05 18 ∷ ion_from g07 18 ∷ [])
    ≡ record { end = 18; key = GpsIon ion; verdict = Whole (IonItem (record { sat = g05; moment = 604800 * 2295 + 18; content = ContentGps ion })) } ∷ []
unfolding periods_of moment_near ion_from ion g05 g07
ionosphere = refl
