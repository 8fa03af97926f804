-- LNAV subframes, read into raw numbers and written of them.
use Rattle.std.specs.Prelude.{◌≡◌, ◌+◌, ℕ, ◌==◌, if◌then◌else◌, Option, None, Some, Result, Ok, Err}
use Rattle.nav_eph.specs.Conditions.{wn_of}
use Rattle.nav_eph.specs.declared.part.Part.{Part}
use Rattle.nav_eph.specs.declared.part.Body.{Body}
use Rattle.nav_eph.specs.declared.part.Body.TheVariants.{GpsClock, GpsA, GpsB, GpsIon}
use Rattle.lnav_subframe.specs.Bytes.{HasBits, subframe_bytes}
use Rattle.lnav_subframe.specs.declared.out.SubframeOut.{SubframeOut}
use Rattle.lnav_subframe.specs.declared.out.SubframeOut.TheVariants.{Clock, OrbitA, OrbitB, Ion}
use Rattle.lnav_subframe.specs.declared.fault.LnavFault.{LnavFault}
use Rattle.lnav_subframe.specs.declared.fault.LnavFault.TheVariants.{Preamble, Parity, BadTow, Unused, BadTime}
use Rattle.raw_values.specs.Gps.{clock_in, orbit_a_in, orbit_b_in, raw_clock, raw_orbit_a, raw_orbit_b, raw_side, side_in}
use Rattle.raw_values.specs.Ion.{gps_ion_in, raw_gps_ion}
use Rattle.c_calls.specs.Tags.{second_of}
use Rattle.c_calls.specs.declared.subframe_raw.SubframeRaw.{SubframeRaw}
use Rattle.c_calls.specs.declared.subframe_raw.SubframeBits.{SubframeBits}

-- the number of an error: of the parity of word 1 to 10 that is 49 to 58
abbrev pub subframe_status : LnavFault → ℕ
subframe_status Preamble = 48
subframe_status (Parity word) = 48 + word
subframe_status BadTow = 59
subframe_status (Unused number page) = 60
subframe_status BadTime = 61

-- the numbers of a body written over these: the fields of its subframe; the others stay
abbrev pub raw_subframe : Body → SubframeRaw → SubframeRaw
raw_subframe (GpsClock clock side tag) old =
    record old { number = 1; wn = wn_of tag; second = second_of tag; clock = raw_clock clock; side = raw_side side }
raw_subframe (GpsA a fit) old = record old { number = 2; a = raw_orbit_a a; fit = fit }
raw_subframe (GpsB b) old = record old { number = 3; b = raw_orbit_b b }
raw_subframe (GpsIon ion second) old = record old { number = 4; second = second; ion = raw_gps_ion ion }
raw_subframe _ old = old

-- the part of a subframe is put and the result is 0, or nothing is put and the result is the number
-- of the error
abbrev pub PutsSubframe : Result Part LnavFault → SubframeRaw → SubframeRaw → ℕ → Type 0
PutsSubframe (Ok part) old new status = (status ≡ 0) × (new ≡ raw_subframe part.body old)
PutsSubframe (Err fault) old new status = (status ≡ subframe_status fault) × (new ≡ old)

-- the content of the subframe with these numbers; whether each is in its range is another question
abbrev pub content_in : SubframeRaw → Option SubframeOut
content_in raw =
    if raw.number == 1 then Some (Clock (clock_in raw.clock) (side_in raw.side) raw.wn)
    else if raw.number == 2 then Some (OrbitA (orbit_a_in raw.a) raw.fit)
    else if raw.number == 3 then Some (OrbitB (orbit_b_in raw.b))
    else if raw.number == 4 then Some (Ion (gps_ion_in raw.ion))
    else None

-- there is a content, and its fields are in range
abbrev pub IsContent : Option SubframeOut → Type 0
IsContent None = ⊥
IsContent (Some content) = HasBits content

-- the bits are those of the subframe with this content and TOW count
abbrev pub IsSubframeOf : Option SubframeOut → ℕ → SubframeBits → Type 0
IsSubframeOf None tow_count new = ⊥
IsSubframeOf (Some content) tow_count new = new ≡ record { bytes = subframe_bytes content tow_count }

-- the result is a part, and the numbers that are put of it over these encode that content
abbrev pub IsReadAs : Result Part LnavFault → SubframeRaw → Option SubframeOut → Type 0
IsReadAs (Ok part) old content = content_in (raw_subframe part.body old) ≡ content
IsReadAs (Err fault) old content = ⊥
