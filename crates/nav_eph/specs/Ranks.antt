-- Parts and items as lists of numbers in the order of their fields: equality of the lists is
-- equality of the values, but for the transmission time if it is left out.
use Rattle.std.specs.Prelude.{ℤ, pos, Bool, true, false, ◌&&◌, List, [], ◌∷◌, ◌++◌}
use Rattle.std.specs.Ordering.{int_eq}
use Rattle.nav_eph.specs.Satellite.{Satellite, place_of}
use Rattle.nav_eph.specs.declared.gps.GpsClock.{GpsClock}
use Rattle.nav_eph.specs.declared.gps.GpsSide.{GpsSide}
use Rattle.nav_eph.specs.declared.gps.GpsOrbitA.{GpsOrbitA}
use Rattle.nav_eph.specs.declared.gps.GpsOrbitB.{GpsOrbitB}
use Rattle.nav_eph.specs.declared.galileo.GalWord1.{GalWord1}
use Rattle.nav_eph.specs.declared.galileo.GalWord2.{GalWord2}
use Rattle.nav_eph.specs.declared.galileo.GalWord3.{GalWord3}
use Rattle.nav_eph.specs.declared.galileo.GalWord4.{GalWord4}
use Rattle.nav_eph.specs.declared.galileo.GalHealth.{GalHealth}
use Rattle.nav_eph.specs.declared.ion.GpsIon.{GpsIon}
use Rattle.nav_eph.specs.declared.ion.GalIon.{GalIon}
use Rattle.nav_eph.specs.declared.ion.IonContent.{IonContent}
use Rattle.nav_eph.specs.declared.ion.IonContent.TheVariants.{Gps as OfGps, Gal as OfGal}
use Rattle.nav_eph.specs.declared.tag.SentTag.{SentTag}
use Rattle.nav_eph.specs.declared.tag.SentTag.TheVariants.{Sent, Toe}
use Rattle.nav_eph.specs.declared.part.Body.{Body}
use Rattle.nav_eph.specs.declared.part.Body.TheVariants.{GpsClock as ClockBody, GpsA, GpsB, GalW1, GalW2}
use Rattle.nav_eph.specs.declared.part.Body.TheVariants.{GalW3, GalW4, GalHealth as HealthBody}
use Rattle.nav_eph.specs.declared.part.Body.TheVariants.{GpsIon as GpsIonBody, GalIon as GalIonBody}
use Rattle.nav_eph.specs.declared.part.Part.{Part}
use Rattle.nav_eph.specs.declared.items.SentSecond.{SentSecond}
use Rattle.nav_eph.specs.declared.items.SentSecond.TheVariants.{Unknown, At}
use Rattle.nav_eph.specs.declared.items.NavItem.{NavItem}
use Rattle.nav_eph.specs.declared.items.NavItem.TheVariants.{Gps, Gal, Ion}

-- whether two lists of numbers are equal
abbrev pub same_numbers : List ℤ → List ℤ → Bool
same_numbers [] [] = true
same_numbers [] (y ∷ ys) = false
same_numbers (x ∷ xs) [] = false
same_numbers (x ∷ xs) (y ∷ ys) = int_eq x y && same_numbers xs ys

-- the numbers of a satellite
abbrev pub sat_rank : Satellite → List ℤ
sat_rank s = pos (place_of s.system) ∷ pos s.number ∷ []

-- the numbers of a GPS clock correction
abbrev pub clock_rank : GpsClock → List ℤ
clock_rank x =
    pos x.iodc ∷ pos x.toc ∷ x.af2 ∷ x.af1 ∷ x.af0 ∷ x.tgd ∷ []

-- the numbers of an SV status
abbrev pub side_rank : GpsSide → List ℤ
side_rank x =
    pos x.l2_code ∷ pos x.ura ∷ pos x.health ∷ pos x.l2p ∷ []

-- the numbers of GPS subframe 2
abbrev pub orbit_a_rank : GpsOrbitA → List ℤ
orbit_a_rank x =
    pos x.iode ∷ x.crs ∷ x.delta_n ∷ x.m0 ∷ x.cuc ∷ pos x.e ∷ x.cus ∷ pos x.root_a ∷
    pos x.toe ∷ []

-- the numbers of GPS subframe 3
abbrev pub orbit_b_rank : GpsOrbitB → List ℤ
orbit_b_rank x =
    pos x.iode ∷ x.cic ∷ x.omega0 ∷ x.cis ∷ x.i0 ∷ x.crc ∷ x.omega ∷ x.omega_dot ∷ x.idot ∷ []

-- the numbers of I/NAV word type 1
abbrev pub word1_rank : GalWord1 → List ℤ
word1_rank x =
    pos x.iodnav ∷ pos x.toe ∷ x.m0 ∷ pos x.e ∷ pos x.root_a ∷ []

-- the numbers of I/NAV word type 2
abbrev pub word2_rank : GalWord2 → List ℤ
word2_rank x =
    pos x.iodnav ∷ x.omega0 ∷ x.i0 ∷ x.omega ∷ x.idot ∷ []

-- the numbers of I/NAV word type 3
abbrev pub word3_rank : GalWord3 → List ℤ
word3_rank x =
    pos x.iodnav ∷ x.omega_dot ∷ x.delta_n ∷ x.cuc ∷ x.cus ∷ x.crc ∷ x.crs ∷ pos x.sisa ∷ []

-- the numbers of I/NAV word type 4
abbrev pub word4_rank : GalWord4 → List ℤ
word4_rank x =
    pos x.iodnav ∷ x.cic ∷ x.cis ∷ pos x.toc ∷ x.af0 ∷ x.af1 ∷ x.af2 ∷ []

-- the numbers of Galileo group delays and health
abbrev pub health_rank : GalHealth → List ℤ
health_rank x =
    x.bgd_a ∷ x.bgd_b ∷ pos x.hs_e5b ∷ pos x.hs_e1b ∷ pos x.dvs_e5b ∷ pos x.dvs_e1b ∷ []

-- the numbers of GPS ionospheric parameters
abbrev pub gps_ion_rank : GpsIon → List ℤ
gps_ion_rank x =
    x.alpha0 ∷ x.alpha1 ∷ x.alpha2 ∷ x.alpha3 ∷ x.beta0 ∷ x.beta1 ∷ x.beta2 ∷ x.beta3 ∷ []

-- the numbers of Galileo ionospheric parameters
abbrev pub gal_ion_rank : GalIon → List ℤ
gal_ion_rank x =
    pos x.ai0 ∷ x.ai1 ∷ x.ai2 ∷ pos x.regions ∷ []

-- the numbers of ionospheric parameters: system and parameters
abbrev pub content_rank : IonContent → List ℤ
content_rank (OfGps x) = pos 0 ∷ gps_ion_rank x
content_rank (OfGal x) = pos 1 ∷ gal_ion_rank x

-- the numbers of a tag: kind, week number and time of week
abbrev pub tag_rank : SentTag → List ℤ
tag_rank (Sent wn second) = pos 0 ∷ pos wn ∷ pos second ∷ []
tag_rank (Toe wn second) = pos 1 ∷ pos wn ∷ pos second ∷ []

-- the numbers of a body: kind and fields
abbrev pub body_rank : Body → List ℤ
body_rank (ClockBody clock side tag) = pos 0 ∷ (clock_rank clock ++ side_rank side ++ tag_rank tag)
body_rank (GpsA orbit fit) = pos 1 ∷ pos fit ∷ orbit_a_rank orbit
body_rank (GpsB orbit) = pos 2 ∷ orbit_b_rank orbit
body_rank (GalW1 word) = pos 3 ∷ word1_rank word
body_rank (GalW2 word) = pos 4 ∷ word2_rank word
body_rank (GalW3 word) = pos 5 ∷ word3_rank word
body_rank (GalW4 word) = pos 6 ∷ word4_rank word
body_rank (HealthBody health tag) = pos 7 ∷ (health_rank health ++ tag_rank tag)
body_rank (GpsIonBody x second) = pos 8 ∷ pos second ∷ gps_ion_rank x
body_rank (GalIonBody x wn second) = pos 9 ∷ pos wn ∷ pos second ∷ gal_ion_rank x

-- the numbers of a part
abbrev pub part_rank : Part → List ℤ
part_rank p = pos p.stamp ∷ (sat_rank p.sat ++ body_rank p.body)

-- the numbers of an item without the transmission time of an ephemeris: kind and fields
abbrev pub rank : NavItem → List ℤ
rank (Gps e) =
    pos 0 ∷ (sat_rank e.sat ++ clock_rank e.clock ++ side_rank e.side ++ orbit_a_rank e.a
    ++ (pos e.fit ∷ pos e.toe_week ∷ orbit_b_rank e.b))
rank (Gal e) =
    pos 1 ∷ (sat_rank e.sat ++ word1_rank e.w1 ++ word2_rank e.w2 ++ word3_rank e.w3
    ++ word4_rank e.w4 ++ (pos e.toe_week ∷ health_rank e.health))
rank (Ion e) = pos 2 ∷ (sat_rank e.sat ++ (pos e.moment ∷ content_rank e.content))

-- the numbers of a transmission time: whether it is known, and its value
abbrev pub transmission_rank : SentSecond → List ℤ
transmission_rank Unknown = pos 0 ∷ pos 0 ∷ []
transmission_rank (At second) = pos 1 ∷ second ∷ []

-- the transmission time of an ephemeris; unknown for an ionosphere item, whose moment is among its other fields
abbrev pub sent_of : NavItem → SentSecond
sent_of (Gps e) = e.sent
sent_of (Gal e) = e.sent
sent_of (Ion e) = Unknown

-- all numbers of an item
abbrev pub whole_rank : NavItem → List ℤ
whole_rank x = transmission_rank (sent_of x) ++ rank x
