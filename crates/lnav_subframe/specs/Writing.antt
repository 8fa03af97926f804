-- The bits of a written subframe.
use Rattle.std.specs.Prelude.{◌≡◌, ℕ, ◌*◌, ◌<◌, ◌≤◌, List, Result, Ok, Err}
use Rattle.nav_bits.specs.Bits.{number_at}
use Rattle.nav_eph.specs.Satellite.{Satellite}
use Rattle.nav_eph.specs.Steps.{IsStep16}
use Rattle.nav_eph.specs.declared.gps.GpsClock.{GpsClock}
use Rattle.nav_eph.specs.declared.gps.GpsSide.{GpsSide}
use Rattle.nav_eph.specs.declared.gps.GpsOrbitA.{GpsOrbitA}
use Rattle.nav_eph.specs.declared.gps.GpsOrbitB.{GpsOrbitB}
use Rattle.nav_eph.specs.declared.ion.GpsIon.{GpsIon}
use Rattle.nav_eph.specs.declared.tag.SentTag.TheVariants.{Sent}
use Rattle.nav_eph.specs.declared.part.Body.{Body}
use Rattle.nav_eph.specs.declared.part.Body.TheVariants.{GpsClock as ClockBody, GpsA as OrbitABody, GpsB as OrbitBBody, GpsIon as IonBody}
use Rattle.lnav_subframe.specs.declared.fault.LnavFault.{LnavFault}
use Rattle.lnav_subframe.specs.declared.fault.LnavFault.TheVariants.{Unused}
use Rattle.lnav_subframe.specs.declared.clock.Subframe1.{Subframe1}
use Rattle.lnav_subframe.specs.declared.orbit.Subframe2.{Subframe2}
use Rattle.lnav_subframe.specs.declared.orbit.Subframe3.{Subframe3}
use Rattle.lnav_subframe.specs.declared.page18.Page18.{Page18}
use Rattle.lnav_subframe.specs.declared.out.SubframeOut.{SubframeOut}
use Rattle.lnav_subframe.specs.declared.out.SubframeOut.TheVariants.{Clock, OrbitA, OrbitB, Ion, Other}
use Rattle.lnav_subframe.specs.Subframes.{head_at, head_rest, subframe1_at, subframe1_rest, subframe2_at, subframe2_rest, subframe3_at, subframe3_rest, page18_at, page18_rest}
use Rattle.lnav_subframe.specs.Reading.{heard, start_second, subframe_of}
use Rattle.lnav_subframe.specs.Words.{IsWord, last_before, word_of}

-- the subframe can be written: any other page is of subframe 4 or 5, and is not page 18 of subframe 4
abbrev pub IsWritable : SubframeOut → Type 0
IsWritable (Other number page) = (4 ≤ number) × (number ≤ 5) × ((number ≡ 4) → (page ≡ 56) → ⊥)
IsWritable _ = Unit {0}

-- toc or toe, if there is one, is within the week
abbrev pub HasTime : SubframeOut → Type 0
HasTime (Clock clock side wn) = IsStep16 clock.toc
HasTime (OrbitA orbit fit) = IsStep16 orbit.toe
HasTime _ = Unit {0}

-- the fields of subframe 1
abbrev pub subframe1_of : GpsClock → GpsSide → ℕ → ℕ → Subframe1
subframe1_of c s wn tow_count = record {
  tow_count = tow_count;
  wn = wn;
  l2_code = s.l2_code;
  ura = s.ura;
  health = s.health;
  iodc = c.iodc;
  l2p = s.l2p;
  tgd = c.tgd;
  toc = c.toc;
  af2 = c.af2;
  af1 = c.af1;
  af0 = c.af0;
}

-- the fields of subframe 2
abbrev pub subframe2_of : GpsOrbitA → ℕ → ℕ → Subframe2
subframe2_of o fit tow_count = record {
  tow_count = tow_count;
  iode = o.iode;
  crs = o.crs;
  delta_n = o.delta_n;
  m0 = o.m0;
  cuc = o.cuc;
  e = o.e;
  cus = o.cus;
  root_a = o.root_a;
  toe = o.toe;
  fit = fit;
}

-- the fields of subframe 3
abbrev pub subframe3_of : GpsOrbitB → ℕ → Subframe3
subframe3_of o tow_count = record {
  tow_count = tow_count;
  cic = o.cic;
  omega0 = o.omega0;
  cis = o.cis;
  i0 = o.i0;
  crc = o.crc;
  omega = o.omega;
  omega_dot = o.omega_dot;
  iode = o.iode;
  idot = o.idot;
}

-- the fields of page 18 of subframe 4
abbrev pub page18_of : GpsIon → ℕ → Page18
page18_of i tow_count = record {
  tow_count = tow_count;
  alpha0 = i.alpha0;
  alpha1 = i.alpha1;
  alpha2 = i.alpha2;
  alpha3 = i.alpha3;
  beta0 = i.beta0;
  beta1 = i.beta1;
  beta2 = i.beta2;
  beta3 = i.beta3;
}

-- the data bits have these fields and this TOW count, and all other bits as in `Subframes`
abbrev pub Holds : SubframeOut → ℕ → List ℕ → Type 0
Holds (Clock clock side wn) tow_count source = (subframe1_at source 0 ≡ subframe1_of clock side wn tow_count) × subframe1_rest source 0
Holds (OrbitA orbit fit) tow_count source = (subframe2_at source 0 ≡ subframe2_of orbit fit tow_count) × subframe2_rest source 0
Holds (OrbitB orbit) tow_count source = (subframe3_at source 0 ≡ subframe3_of orbit tow_count) × subframe3_rest source 0
Holds (Ion ion) tow_count source = (page18_at source 0 ≡ page18_of ion tow_count) × page18_rest source 0
Holds (Other number page) tow_count source = (head_at source 0 ≡ record { tow_count = tow_count; number = number; page = page }) × head_rest source 0

-- the bits are the ten words of these data bits, followed by four 0 bits
pub record AreWords (bits source : List ℕ) : Type 0 where
  pub words : (k : ℕ) → k < 10 → IsWord k (word_of bits k) (last_before bits k) (number_at source (30 * k) 24)
  pub behind : number_at bits 300 4 ≡ 0

-- the bits are a subframe with these fields and this TOW count
abbrev pub IsWritten : SubframeOut → ℕ → List ℕ → Type 0
IsWritten body tow_count bits = (source : List ℕ) × Holds body tow_count source × AreWords bits source

-- the result when a written subframe is read
abbrev pub read_again : SubframeOut → ℕ → Result Body LnavFault
read_again (Clock clock side wn) tow_count = Ok (ClockBody clock side (Sent wn (start_second tow_count)))
read_again (OrbitA orbit fit) tow_count = Ok (OrbitABody orbit fit)
read_again (OrbitB orbit) tow_count = Ok (OrbitBBody orbit)
read_again (Ion ion) tow_count = Ok (IonBody ion (start_second tow_count))
read_again (Other number page) tow_count = Err (Unused number page)

-- for every satellite and time tag, reading the bits gives that result
abbrev pub AllReadAs : List ℕ → Result Body LnavFault → Type 0
AllReadAs bits answer = (sat : Satellite) (stamp : ℕ) → subframe_of bits sat stamp ≡ heard sat stamp answer
