-- The order of items of GPS and Galileo: as that of rows, by the numbers in the order of their columns.
use Rattle.std.specs.Prelude.{ℕ, List, [], ◌∷◌, ◌++◌, Option, None, Some, ℤ, pos}
use Rattle.std.specs.Cmp.Lexicographic.{slice_cmp}
use Rattle.std.specs.Ordering.{int_cmp, on}
use Rattle.std.specs.declared.cmp.Ordering.{Ordering}
use Rattle.nav_eph.specs.Ranks.{gal_ion_rank, gps_ion_rank, sent_of}
use Rattle.nav_eph.specs.Satellite.{place_of}
use Rattle.nav_eph.specs.declared.ion.IonContent.{IonContent}
use Rattle.nav_eph.specs.declared.ion.IonContent.TheVariants.{Gps as OfGps, Gal as OfGal}
use Rattle.nav_eph.specs.declared.items.GpsEph.{GpsEph}
use Rattle.nav_eph.specs.declared.items.GalEph.{GalEph}
use Rattle.nav_eph.specs.declared.items.NavItem.{NavItem}
use Rattle.nav_eph.specs.declared.items.NavItem.TheVariants.{Gps, Gal, Ion}
use Rattle.nav_eph.specs.declared.items.SentSecond.{SentSecond}
use Rattle.nav_eph.specs.declared.items.SentSecond.TheVariants.{Unknown, At}
use Rattle.nav_lists.specs.Merging.{moment_of}
use Rattle.rinex_write.specs.Fields.{epoch_of}

-- what comes first: time; system, and behind all ephemerides the ionospheres; satellite; message type; epoch
abbrev pub ion_place : IonContent → ℕ
ion_place (OfGps x) = 7
ion_place (OfGal x) = 8

abbrev pub system_place : NavItem → ℕ
system_place (Gps e) = 0
system_place (Gal e) = 1
system_place (Ion e) = ion_place e.content

abbrev pub number_of : NavItem → ℕ
number_of (Gps e) = e.sat.number
number_of (Gal e) = e.sat.number
number_of (Ion e) = e.sat.number

abbrev pub message_place : NavItem → ℕ
message_place (Gps e) = 0
message_place (Gal e) = 1
message_place (Ion e) = 0

abbrev pub or_none : Option ℕ → ℕ
or_none None = 0
or_none (Some n) = n

abbrev pub nav_front : NavItem → List ℤ
nav_front x =
    pos (moment_of x) ∷ pos (system_place x) ∷ pos (number_of x) ∷ pos (message_place x) ∷ pos (or_none (epoch_of x)) ∷ []

-- the numbers of a GPS ephemeris without the time sent: its columns, and what no column shows
abbrev pub gps_numbers : GpsEph → List ℤ
gps_numbers e =
    e.clock.af0 ∷ e.clock.af1 ∷ e.clock.af2
    ∷ pos e.a.iode ∷ e.a.crs ∷ e.a.delta_n ∷ e.a.m0
    ∷ e.a.cuc ∷ pos e.a.e ∷ e.a.cus ∷ pos e.a.root_a
    ∷ pos e.a.toe ∷ e.b.cic ∷ e.b.omega0 ∷ e.b.cis
    ∷ e.b.i0 ∷ e.b.crc ∷ e.b.omega ∷ e.b.omega_dot
    ∷ e.b.idot ∷ pos e.side.l2_code ∷ pos e.toe_week ∷ pos e.side.l2p
    ∷ pos e.side.ura ∷ pos e.side.health ∷ e.clock.tgd ∷ pos e.clock.iodc
    ∷ pos e.fit
    ∷ pos e.clock.toc ∷ pos e.b.iode ∷ pos (place_of e.sat.system) ∷ []

-- the numbers of a Galileo ephemeris without the time sent: its columns, those of health by their bits, and what no
-- column shows
abbrev pub galileo_numbers : GalEph → List ℤ
galileo_numbers e =
    e.w4.af0 ∷ e.w4.af1 ∷ e.w4.af2
    ∷ pos e.w1.iodnav ∷ e.w3.crs ∷ e.w3.delta_n ∷ e.w1.m0
    ∷ e.w3.cuc ∷ pos e.w1.e ∷ e.w3.cus ∷ pos e.w1.root_a
    ∷ pos e.w1.toe ∷ e.w4.cic ∷ e.w2.omega0 ∷ e.w4.cis
    ∷ e.w2.i0 ∷ e.w3.crc ∷ e.w2.omega ∷ e.w3.omega_dot
    ∷ e.w2.idot ∷ pos e.toe_week
    ∷ pos e.w3.sisa ∷ pos e.health.hs_e5b ∷ pos e.health.dvs_e5b ∷ pos e.health.hs_e1b ∷ pos e.health.dvs_e1b
    ∷ e.health.bgd_a ∷ e.health.bgd_b
    ∷ pos e.w4.toc ∷ pos e.w2.iodnav ∷ pos e.w3.iodnav ∷ pos e.w4.iodnav ∷ pos (place_of e.sat.system) ∷ []

-- the numbers of ionosphere parameters
abbrev pub ion_numbers : IonContent → List ℤ
ion_numbers (OfGps x) = gps_ion_rank x
ion_numbers (OfGal x) = gal_ion_rank x

abbrev pub nav_numbers : NavItem → List ℤ
nav_numbers (Gps e) = gps_numbers e
nav_numbers (Gal e) = galileo_numbers e
nav_numbers (Ion e) = pos (place_of e.sat.system) ∷ ion_numbers e.content

abbrev pub nav_rank : NavItem → List ℤ
nav_rank x = nav_front x ++ nav_numbers x

-- the order by rank
abbrev pub by_numbers : NavItem → NavItem → Ordering
by_numbers = on nav_rank (slice_cmp int_cmp)

-- the order of transmission times: one that is not known is the last
abbrev pub sent_place : SentSecond → List ℤ
sent_place (At second) = pos 0 ∷ second ∷ []
sent_place Unknown = pos 1 ∷ pos 0 ∷ []

abbrev pub by_sent : NavItem → NavItem → Ordering
by_sent = on (λ x. sent_place (sent_of x)) (slice_cmp int_cmp)
