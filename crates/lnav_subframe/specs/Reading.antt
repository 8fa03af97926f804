-- The part that the bits of a subframe encode, as a relation and as a function.
use Rattle.std.specs.Prelude.{◌≡◌, ℕ, ◌-◌, ◌*◌, ◌&&◌, List, nat_eq, nat_le, nat_lt, if◌then◌else◌, Option, None, Some, Result, Ok, Err}
use Rattle.nav_eph.specs.Satellite.{Satellite}
use Rattle.nav_eph.specs.declared.gps.GpsClock.{GpsClock}
use Rattle.nav_eph.specs.declared.gps.GpsSide.{GpsSide}
use Rattle.nav_eph.specs.declared.gps.GpsOrbitA.{GpsOrbitA}
use Rattle.nav_eph.specs.declared.gps.GpsOrbitB.{GpsOrbitB}
use Rattle.nav_eph.specs.declared.ion.GpsIon.{GpsIon}
use Rattle.nav_eph.specs.declared.tag.SentTag.TheVariants.{Sent}
use Rattle.nav_eph.specs.declared.part.Part.{Part}
use Rattle.nav_eph.specs.declared.part.Body.{Body}
use Rattle.nav_eph.specs.declared.part.Body.TheVariants.{GpsClock as ClockBody, GpsA as OrbitABody, GpsB as OrbitBBody, GpsIon as IonBody}
use Rattle.lnav_subframe.specs.declared.fault.LnavFault.{LnavFault}
use Rattle.lnav_subframe.specs.declared.fault.LnavFault.TheVariants.{Preamble, Parity, BadTow, Unused, BadTime}
use Rattle.lnav_subframe.specs.declared.head.Head.{Head}
use Rattle.lnav_subframe.specs.declared.clock.Subframe1.{Subframe1}
use Rattle.lnav_subframe.specs.declared.orbit.Subframe2.{Subframe2}
use Rattle.lnav_subframe.specs.declared.orbit.Subframe3.{Subframe3}
use Rattle.lnav_subframe.specs.declared.page18.Page18.{Page18}
use Rattle.lnav_subframe.specs.Subframes.{head_at, subframe1_at, subframe2_at, subframe3_at, page18_at}
use Rattle.lnav_subframe.specs.Words.{IsSubframe, upright}
use Rattle.lnav_subframe.specs.Words.{bad_word_from, data_bits_of, has_preamble}

-- the second of the week at which a subframe starts: 6 s before the time of its TOW count, which is that of
-- the next subframe (IS-GPS-200, 20.3.3.2)
abbrev pub start_second : ℕ → ℕ
start_second tow_count = if nat_eq tow_count 0 then 604794 else 6 * tow_count - 6

-- the clock parameters of subframe 1
abbrev pub clock_of : Subframe1 → GpsClock
clock_of s = record { iodc = s.iodc; toc = s.toc; af2 = s.af2; af1 = s.af1; af0 = s.af0; tgd = s.tgd }

-- the SV status of subframe 1
abbrev pub side_of : Subframe1 → GpsSide
side_of s = record { l2_code = s.l2_code; ura = s.ura; health = s.health; l2p = s.l2p }

-- the orbit parameters of subframe 2
abbrev pub orbit_a_of : Subframe2 → GpsOrbitA
orbit_a_of s = record { iode = s.iode; crs = s.crs; delta_n = s.delta_n; m0 = s.m0; cuc = s.cuc; e = s.e; cus = s.cus; root_a = s.root_a; toe = s.toe }

-- the orbit parameters of subframe 3
abbrev pub orbit_b_of : Subframe3 → GpsOrbitB
orbit_b_of s = record { iode = s.iode; cic = s.cic; omega0 = s.omega0; cis = s.cis; i0 = s.i0; crc = s.crc; omega = s.omega; omega_dot = s.omega_dot; idot = s.idot }

-- the ionosphere parameters of page 18
abbrev pub ion_of : Page18 → GpsIon
ion_of p = record { alpha0 = p.alpha0; alpha1 = p.alpha1; alpha2 = p.alpha2; alpha3 = p.alpha3; beta0 = p.beta0; beta1 = p.beta1; beta2 = p.beta2; beta3 = p.beta3 }

-- the body of subframe 1; toc must be within the week, in units of 16 s
abbrev pub read_1 : Subframe1 → Result Body LnavFault
read_1 s = if nat_lt s.toc 37800 then Ok (ClockBody (clock_of s) (side_of s) (Sent s.wn (start_second s.tow_count))) else Err BadTime

-- the body of subframe 2; toe must be within the week, in units of 16 s
abbrev pub read_2 : Subframe2 → Result Body LnavFault
read_2 s = if nat_lt s.toe 37800 then Ok (OrbitABody (orbit_a_of s) s.fit) else Err BadTime

-- the body of subframe 3
abbrev pub read_3 : Subframe3 → Result Body LnavFault
read_3 s = Ok (OrbitBBody (orbit_b_of s))

-- the body of page 18 of subframe 4
abbrev pub read_18 : Page18 → Result Body LnavFault
read_18 p = Ok (IonBody (ion_of p) (start_second p.tow_count))

-- the page in `Unused`: the SV ID in subframes 4 and 5, 0 in others
abbrev pub page_of : Head → ℕ
page_of h = if nat_eq h.number 4 then h.page else (if nat_eq h.number 5 then h.page else 0)

-- the body of a subframe with this head, given its fields in each layout, or the first error: TOW
-- count past the week, unused subframe or page, toc or toe past the week
abbrev pub read_by : Head → Subframe1 → Subframe2 → Subframe3 → Page18 → Result Body LnavFault
read_by h s1 s2 s3 p =
    if nat_le 100800 h.tow_count then Err BadTow
    else (if nat_eq h.number 1 then read_1 s1
    else (if nat_eq h.number 2 then read_2 s2
    else (if nat_eq h.number 3 then read_3 s3
    else (if nat_eq h.number 4 && nat_eq h.page 56 then read_18 p
    else Err (Unused h.number (page_of h))))))

-- the body that the data bits of a subframe encode, or the first error in them
abbrev pub content : List ℕ → Result Body LnavFault
content source = read_by (head_at source 0) (subframe1_at source 0) (subframe2_at source 0) (subframe3_at source 0) (page18_at source 0)

-- the bits are a subframe with correct parity whose data bits encode the part's body
abbrev pub StandsFor : List ℕ → Satellite → ℕ → Part → Type 0
StandsFor bits sat stamp part =
    (part.stamp ≡ stamp) × (part.sat ≡ sat) × ((source : List ℕ) × IsSubframe bits source × (content source ≡ Ok part.body))

-- ---- the same as a function

-- the result for a body or error: the part with satellite and time tag, or the error
abbrev pub heard : Satellite → ℕ → Result Body LnavFault → Result Part LnavFault
heard sat stamp (Ok body) = Ok (record { stamp = stamp; sat = sat; body = body })
heard sat stamp (Err fault) = Err fault

-- the result for an upright subframe, given the first word whose parity is wrong, if any
abbrev pub by_words : List ℕ → Satellite → ℕ → Option ℕ → Result Part LnavFault
by_words bits sat stamp None = heard sat stamp (content (data_bits_of bits))
by_words bits sat stamp (Some word) = Err (Parity word)

-- the part that the bits encode, or their first error
unfoldable pub subframe_of : List ℕ → Satellite → ℕ → Result Part LnavFault
subframe_of bits sat stamp =
    if has_preamble bits then by_words (upright bits) sat stamp (bad_word_from (upright bits) 0 10)
    else Err Preamble
