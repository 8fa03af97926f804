-- The bytes of a subframe, as a function of what it is written from (IS-GPS-200, figure 20-1).
use Rattle.std.specs.Prelude.{ℕ, zero, suc, ◌-◌, ◌*◌, ◌/◌, ◌%◌, ◌^◌, ◌<◌, List, [], ◌∷◌}
use Rattle.std.specs.Prelude.{◌||◌, nat_eq, if◌then◌else◌}
use Rattle.nav_bits.specs.Fields.{Field, unsigned, signed, reserved}
use Rattle.nav_bits.specs.Packed.{pack, packed}
use Rattle.nav_bits.specs.Signed.{unsigned_of}
use Rattle.nav_eph.specs.Bodies.{IsGpsIon, IsGpsSide}
use Rattle.nav_eph.specs.Ranges.{IsGpsClock, IsGpsOrbitA, IsGpsOrbitB}
use Rattle.lnav_subframe.specs.ParityFunctions.{made_of, solved_of}
use Rattle.lnav_subframe.specs.declared.out.SubframeOut.{SubframeOut}
use Rattle.lnav_subframe.specs.declared.out.SubframeOut.TheVariants.{Clock, OrbitA, OrbitB, Ion, Other}

-- each field of the subframe is within its bits
abbrev pub HasBits : SubframeOut → Type 0
HasBits (Clock clock side wn) = IsGpsClock clock × IsGpsSide side × (wn < 2 ^ 10)
HasBits (OrbitA orbit fit) = IsGpsOrbitA orbit × (fit < 2 ^ 1)
HasBits (OrbitB orbit) = IsGpsOrbitB orbit
HasBits (Ion ion) = IsGpsIon ion
HasBits (Other number page) = (number < 2 ^ 3) × (page < 2 ^ 6)

-- the 300 data bits as a table, the parity bits and what is reserved being 0; a field in two ranges stands
-- there as its high and its low bits
abbrev pub data_table : SubframeOut → ℕ → List Field
data_table (Clock clock side wn) tow_count =
    unsigned 8 139 ∷ reserved 22 ∷ unsigned 17 tow_count ∷ reserved 2 ∷ unsigned 3 1
    ∷ reserved 8 ∷ unsigned 10 wn ∷ unsigned 2 side.l2_code ∷ unsigned 4 side.ura
    ∷ unsigned 6 side.health ∷ unsigned 2 (clock.iodc / 2 ^ 8) ∷ reserved 6
    ∷ unsigned 1 side.l2p ∷ reserved 64 ∷ reserved 41 ∷ signed 8 clock.tgd ∷ reserved 6
    ∷ unsigned 8 (clock.iodc % 2 ^ 8) ∷ unsigned 16 clock.toc ∷ reserved 6
    ∷ signed 8 clock.af2 ∷ signed 16 clock.af1 ∷ reserved 6 ∷ signed 22 clock.af0
    ∷ reserved 8 ∷ []
data_table (OrbitA orbit fit) tow_count =
    unsigned 8 139 ∷ reserved 22 ∷ unsigned 17 tow_count ∷ reserved 2 ∷ unsigned 3 2
    ∷ reserved 8 ∷ unsigned 8 orbit.iode ∷ signed 16 orbit.crs ∷ reserved 6
    ∷ signed 16 orbit.delta_n ∷ unsigned 8 ((unsigned_of 32 orbit.m0) / 2 ^ 24)
    ∷ reserved 6 ∷ unsigned 24 ((unsigned_of 32 orbit.m0) % 2 ^ 24) ∷ reserved 6
    ∷ signed 16 orbit.cuc ∷ unsigned 8 (orbit.e / 2 ^ 24) ∷ reserved 6
    ∷ unsigned 24 (orbit.e % 2 ^ 24) ∷ reserved 6 ∷ signed 16 orbit.cus
    ∷ unsigned 8 (orbit.root_a / 2 ^ 24) ∷ reserved 6 ∷ unsigned 24 (orbit.root_a % 2 ^ 24)
    ∷ reserved 6 ∷ unsigned 16 orbit.toe ∷ unsigned 1 fit ∷ reserved 13 ∷ []
data_table (OrbitB orbit) tow_count =
    unsigned 8 139 ∷ reserved 22 ∷ unsigned 17 tow_count ∷ reserved 2 ∷ unsigned 3 3
    ∷ reserved 8 ∷ signed 16 orbit.cic
    ∷ unsigned 8 ((unsigned_of 32 orbit.omega0) / 2 ^ 24) ∷ reserved 6
    ∷ unsigned 24 ((unsigned_of 32 orbit.omega0) % 2 ^ 24) ∷ reserved 6
    ∷ signed 16 orbit.cis ∷ unsigned 8 ((unsigned_of 32 orbit.i0) / 2 ^ 24) ∷ reserved 6
    ∷ unsigned 24 ((unsigned_of 32 orbit.i0) % 2 ^ 24) ∷ reserved 6 ∷ signed 16 orbit.crc
    ∷ unsigned 8 ((unsigned_of 32 orbit.omega) / 2 ^ 24) ∷ reserved 6
    ∷ unsigned 24 ((unsigned_of 32 orbit.omega) % 2 ^ 24) ∷ reserved 6
    ∷ signed 24 orbit.omega_dot ∷ reserved 6 ∷ unsigned 8 orbit.iode ∷ signed 14 orbit.idot
    ∷ reserved 8 ∷ []
data_table (Ion ion) tow_count =
    unsigned 8 139 ∷ reserved 22 ∷ unsigned 17 tow_count ∷ reserved 2 ∷ unsigned 3 4
    ∷ reserved 8 ∷ unsigned 2 1 ∷ unsigned 6 56 ∷ signed 8 ion.alpha0 ∷ signed 8 ion.alpha1
    ∷ reserved 6 ∷ signed 8 ion.alpha2 ∷ signed 8 ion.alpha3 ∷ signed 8 ion.beta0
    ∷ reserved 6 ∷ signed 8 ion.beta1 ∷ signed 8 ion.beta2 ∷ signed 8 ion.beta3
    ∷ reserved 64 ∷ reserved 64 ∷ reserved 28 ∷ []
data_table (Other number page) tow_count =
    unsigned 8 139 ∷ reserved 22 ∷ unsigned 17 tow_count ∷ reserved 2 ∷ unsigned 3 number
    ∷ reserved 8 ∷ unsigned 2 1 ∷ unsigned 6 page ∷ reserved 64 ∷ reserved 64 ∷ reserved 64
    ∷ reserved 40 ∷ []

-- the 24 data bits of the word at an index
abbrev pub data_of : SubframeOut → ℕ → ℕ → ℕ
data_of body tow_count k = pack 0 (data_table body tow_count) / 2 ^ (276 - 30 * k) % 2 ^ 24

-- the word at an index, of its data bits and the last two bits of the word before: in words 2 and 10 the
-- last two data bits are chosen so that the word ends in two bits that are 0
abbrev pub word_number : ℕ → ℕ → ℕ → ℕ
word_number k bits last =
    if nat_eq k 1 || nat_eq k 9 then solved_of (bits / 4) last else made_of bits last

-- the n words from the index k on, by the data bits of each and the last two bits of the word before, and
-- 4 places that are 0 behind the last
unfoldable pub word_fields : (ℕ → ℕ) → ℕ → ℕ → ℕ → List Field
word_fields bits last k zero = reserved 4 ∷ []
word_fields bits last k (suc n) =
    unsigned 30 (word_number k (bits k) last)
    ∷ word_fields bits (word_number k (bits k) last % 4) (suc k) n

-- the 38 bytes of a subframe with this count
unfoldable pub subframe_bytes : SubframeOut → ℕ → List ℕ
subframe_bytes body tow_count = packed 38 (word_fields (data_of body tow_count) 0 0 10)
