-- Items as lists of fields, in the order of their columns, and the epochs of their records.
use Rattle.std.specs.Prelude.{ℕ, ◌+◌, ◌*◌, List, [], ◌∷◌, Option, None, Some, ℤ, pos}
use Rattle.nav_eph.specs.Functions.{moment_near}
use Rattle.nav_eph.specs.declared.items.NavItem.{NavItem}
use Rattle.nav_eph.specs.declared.items.NavItem.TheVariants.{Gps, Gal, Ion}
use Rattle.nav_eph.specs.declared.items.GpsEph.{GpsEph}
use Rattle.nav_eph.specs.declared.items.GalEph.{GalEph}
use Rattle.nav_eph.specs.declared.items.SentSecond.{SentSecond}
use Rattle.nav_eph.specs.declared.items.SentSecond.TheVariants.{Unknown, At}
use Rattle.nav_eph.specs.declared.ion.GpsIon.{GpsIon}
use Rattle.nav_eph.specs.declared.ion.GalIon.{GalIon}
use Rattle.rinex_write.specs.Accuracies.{health_of}

-- the transmission time in seconds, 999,900,000 if it is unknown
abbrev pub sent_field : SentSecond → ℤ
sent_field Unknown = pos 999900000
sent_field (At second) = second

-- the fields of a GPS ephemeris
abbrev pub gps_fields : GpsEph → List ℤ
gps_fields e =
    e.clock.af0 ∷ e.clock.af1 ∷ e.clock.af2
    ∷ pos e.a.iode ∷ e.a.crs ∷ e.a.delta_n ∷ e.a.m0
    ∷ e.a.cuc ∷ pos e.a.e ∷ e.a.cus ∷ pos e.a.root_a
    ∷ pos e.a.toe ∷ e.b.cic ∷ e.b.omega0 ∷ e.b.cis
    ∷ e.b.i0 ∷ e.b.crc ∷ e.b.omega ∷ e.b.omega_dot
    ∷ e.b.idot ∷ pos e.side.l2_code ∷ pos e.toe_week ∷ pos e.side.l2p
    ∷ pos e.side.ura ∷ pos e.side.health ∷ e.clock.tgd ∷ pos e.clock.iodc
    ∷ sent_field e.sent ∷ pos e.fit ∷ []

-- the fields of a Galileo ephemeris
abbrev pub galileo_fields : GalEph → List ℤ
galileo_fields e =
    e.w4.af0 ∷ e.w4.af1 ∷ e.w4.af2
    ∷ pos e.w1.iodnav ∷ e.w3.crs ∷ e.w3.delta_n ∷ e.w1.m0
    ∷ e.w3.cuc ∷ pos e.w1.e ∷ e.w3.cus ∷ pos e.w1.root_a
    ∷ pos e.w1.toe ∷ e.w4.cic ∷ e.w2.omega0 ∷ e.w4.cis
    ∷ e.w2.i0 ∷ e.w3.crc ∷ e.w2.omega ∷ e.w3.omega_dot
    ∷ e.w2.idot ∷ pos 517 ∷ pos e.toe_week
    ∷ pos e.w3.sisa ∷ pos (health_of e.health) ∷ e.health.bgd_a ∷ e.health.bgd_b
    ∷ sent_field e.sent ∷ []

-- the fields of the GPS ionosphere parameters, the last being the region code 0
abbrev pub gps_ionosphere_fields : GpsIon → List ℤ
gps_ionosphere_fields i =
    i.alpha0 ∷ i.alpha1 ∷ i.alpha2 ∷ i.alpha3 ∷ i.beta0 ∷ i.beta1 ∷ i.beta2 ∷ i.beta3 ∷ pos 0 ∷ []

-- the fields of the Galileo ionosphere parameters, the last being the disturbance flags
abbrev pub galileo_ionosphere_fields : GalIon → List ℤ
galileo_ionosphere_fields i = pos i.ai0 ∷ i.ai1 ∷ i.ai2 ∷ pos i.regions ∷ []

-- the epoch of an ephemeris: the time with the time of week toc that is nearest to toe
unfoldable pub gps_epoch : GpsEph → ℕ
gps_epoch e = moment_near (604800 * e.toe_week + 16 * e.a.toe) (16 * e.clock.toc)

unfoldable pub galileo_epoch : GalEph → ℕ
galileo_epoch e = moment_near (604800 * e.toe_week + 60 * e.w1.toe) (60 * e.w4.toc)

-- the epoch of an item that is an ephemeris
abbrev pub epoch_of : NavItem → Option ℕ
epoch_of (Gps e) = Some (gps_epoch e)
epoch_of (Gal e) = Some (galileo_epoch e)
epoch_of (Ion e) = None
