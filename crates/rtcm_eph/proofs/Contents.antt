-- What is known of a payload that gives an ephemeris.
use Rattle.std.proofs.Common.{◌≡◌, ℕ, ◌<◌, ◌≤◌, ◌&&◌, Bool, true, false, if◌then◌else◌, nat_eq, nat_le, nat_lt, refl, ap, ◌∙◌, arith, Result, Ok, Err}
use Rattle.std.proofs.lemmas.Bool.Decides.{nat_tests}
use Rattle.nav_eph.specs.Weeks.{IsGpsWeek, IsGalileoWeek}
use Rattle.nav_eph.specs.declared.items.GpsEph.{GpsEph}
use Rattle.nav_eph.specs.declared.items.GalEph.{GalEph}
use Rattle.nav_eph.specs.declared.items.NavItem.TheVariants.{Gps as GpsItem, Gal as GalItem}
use Rattle.rtcm_eph.specs.declared.message1019.Message1019.{Message1019}
use Rattle.rtcm_eph.specs.declared.message1046.Message1046.{Message1046}
use Rattle.rtcm_eph.specs.declared.content.EphemerisMessage.{EphemerisMessage}
use Rattle.rtcm_eph.specs.declared.content.EphemerisMessage.TheVariants.{Gps as OfGps, Gal as OfGal}
use Rattle.rtcm_eph.specs.declared.fault.MessageFault.{MessageFault}
use Rattle.rtcm_eph.specs.declared.fault.MessageFault.TheVariants.{NoNumber, OtherMessage, Short, BadSat, BadTime, SpareSisa}
use Rattle.rtcm_eph.specs.Reading.{GivesItem, content_1019, content_1046, content_by, gps_eph, gal_eph, judged_1019, judged_1046, is_sisa}

-- the choice of the first fault, over any tests
abbrev by_tests : Bool → Bool → Bool → Bool → Bool → ℕ → Result EphemerisMessage MessageFault → Result EphemerisMessage MessageFault → Result EphemerisMessage MessageFault
by_tests none is_gps short_gps is_gal short_gal number gps gal =
    if none then Err NoNumber
    else (if is_gps then (if short_gps then Err Short else gps)
    else (if is_gal then (if short_gal then Err Short else gal) else Err (OtherMessage number)))

abbrev judged_gps : Bool → Bool → Message1019 → Result EphemerisMessage MessageFault
judged_gps sat times m = if sat then (if times then Ok (OfGps (content_1019 m)) else Err BadTime) else Err BadSat

abbrev judged_gal : Bool → Bool → Bool → Message1046 → Result EphemerisMessage MessageFault
judged_gal sat times sisa m =
    if sat then (if times then (if sisa then Ok (OfGal (content_1046 m)) else Err SpareSisa) else Err BadTime) else Err BadSat

-- what holds where a GPS ephemeris is given
record GpsTests (none is_gps short : Bool) (r : ℕ) (m : Message1019) (e : GpsEph) : Type 0 where
  number : is_gps ≡ true
  long : short ≡ false
  week : IsGpsWeek r m.week e.toe_week
  same : e ≡ gps_eph (content_1019 m) e.toe_week

gps_judged : (sat times : Bool) (m : Message1019) (r : ℕ) (e : GpsEph) → GivesItem r (judged_gps sat times m) (Ok (GpsItem e))
    → IsGpsWeek r m.week e.toe_week × (e ≡ gps_eph (content_1019 m) e.toe_week)
gps_judged true true m r e h = h
gps_judged true false m r e h = absurd h
gps_judged false times m r e h = absurd h

no_gps : (sat times sisa : Bool) (m : Message1046) (r : ℕ) (e : GpsEph) → GivesItem r (judged_gal sat times sisa m) (Ok (GpsItem e)) → ⊥
no_gps true true true m r e h = h
no_gps true true false m r e h = h
no_gps true false sisa m r e h = h
no_gps false times sisa m r e h = h

gps_tests : (n g s l t : Bool) (sat times sat' times' sisa : Bool) (number r : ℕ) (m : Message1019) (m' : Message1046) (e : GpsEph)
    → GivesItem r (by_tests n g s l t number (judged_gps sat times m) (judged_gal sat' times' sisa m')) (Ok (GpsItem e))
    → GpsTests n g s r m e
gps_tests true g s l t sat times sat' times' sisa number r m m' e h = absurd h
gps_tests false true true l t sat times sat' times' sisa number r m m' e h = absurd h
gps_tests false true false l t sat times sat' times' sisa number r m m' e h =
    let known : IsGpsWeek r m.week e.toe_week × (e ≡ gps_eph (content_1019 m) e.toe_week) = gps_judged sat times m r e h in
    record { number = refl; long = refl; week = known.0; same = known.1 }
gps_tests false false s true true sat times sat' times' sisa number r m m' e h = absurd h
gps_tests false false s true false sat times sat' times' sisa number r m m' e h = absurd (no_gps sat' times' sisa m' r e h)
gps_tests false false s false t sat times sat' times' sisa number r m m' e h = absurd h

-- the same of Galileo
record GalTests (is_gps is_gal short : Bool) (r : ℕ) (m : Message1046) (e : GalEph) : Type 0 where
  number : is_gal ≡ true
  long : short ≡ false
  week : IsGalileoWeek r m.week e.toe_week
  same : e ≡ gal_eph (content_1046 m) e.toe_week

gal_judged : (sat times sisa : Bool) (m : Message1046) (r : ℕ) (e : GalEph) → GivesItem r (judged_gal sat times sisa m) (Ok (GalItem e))
    → IsGalileoWeek r m.week e.toe_week × (e ≡ gal_eph (content_1046 m) e.toe_week)
gal_judged true true true m r e h = h
gal_judged true true false m r e h = absurd h
gal_judged true false sisa m r e h = absurd h
gal_judged false times sisa m r e h = absurd h

no_gal : (sat times : Bool) (m : Message1019) (r : ℕ) (e : GalEph) → GivesItem r (judged_gps sat times m) (Ok (GalItem e)) → ⊥
no_gal true true m r e h = h
no_gal true false m r e h = h
no_gal false times m r e h = h

gal_tests : (n g s l t : Bool) (sat times sat' times' sisa : Bool) (number r : ℕ) (m : Message1019) (m' : Message1046) (e : GalEph)
    → GivesItem r (by_tests n g s l t number (judged_gps sat times m) (judged_gal sat' times' sisa m')) (Ok (GalItem e))
    → GalTests g l t r m' e
gal_tests true g s l t sat times sat' times' sisa number r m m' e h = absurd h
gal_tests false true true l t sat times sat' times' sisa number r m m' e h = absurd h
gal_tests false true false l t sat times sat' times' sisa number r m m' e h = absurd (no_gal sat times m r e h)
gal_tests false false s true true sat times sat' times' sisa number r m m' e h = absurd h
gal_tests false false s true false sat times sat' times' sisa number r m m' e h =
    let known : IsGalileoWeek r m'.week e.toe_week × (e ≡ gal_eph (content_1046 m') e.toe_week) = gal_judged sat' times' sisa m' r e h in
    record { number = refl; long = refl; week = known.0; same = known.1 }
gal_tests false false s false t sat times sat' times' sisa number r m m' e h = absurd h

-- a payload that gives a GPS ephemeris is long enough, has message number 1019, and gives its fields
pub record GivenGps (bytes number r : ℕ) (m : Message1019) (e : GpsEph) : Type 0 where
  pub number_is : number ≡ 1019
  pub long : 61 ≤ bytes
  pub week : IsGpsWeek r m.week e.toe_week
  pub same : e ≡ gps_eph (content_1019 m) e.toe_week

pub given_gps : (bytes number r : ℕ) (m : Message1019) (m' : Message1046) (e : GpsEph)
    → GivesItem r (content_by bytes number m m') (Ok (GpsItem e)) → GivenGps bytes number r m e
given_gps bytes number r m m' e h =
    let known : GpsTests (nat_lt bytes 2) (nat_eq number 1019) (nat_lt bytes 61) r m e =
    gps_tests (nat_lt bytes 2) (nat_eq number 1019) (nat_lt bytes 61) (nat_eq number 1046) (nat_lt bytes 63)
    (nat_le 1 m.satellite && nat_le m.satellite 32) (nat_lt m.toe 37800 && nat_lt m.toc 37800)
    (nat_le 1 m'.satellite && nat_le m'.satellite 36) (nat_lt m'.toe 10080 && nat_lt m'.toc 10080) (is_sisa m'.sisa)
    number r m m' e h in
    let number_is : nat_eq number 1019 ≡ true = known.number in
    let long : nat_lt bytes 61 ≡ false = known.long in
    record { number_is = grind (arith, nat_tests); long = grind (arith, nat_tests); week = known.week; same = known.same }

pub record GivenGal (bytes number r : ℕ) (m : Message1046) (e : GalEph) : Type 0 where
  pub number_is : number ≡ 1046
  pub long : 63 ≤ bytes
  pub week : IsGalileoWeek r m.week e.toe_week
  pub same : e ≡ gal_eph (content_1046 m) e.toe_week

pub given_gal : (bytes number r : ℕ) (m : Message1019) (m' : Message1046) (e : GalEph)
    → GivesItem r (content_by bytes number m m') (Ok (GalItem e)) → GivenGal bytes number r m' e
given_gal bytes number r m m' e h =
    let known : GalTests (nat_eq number 1019) (nat_eq number 1046) (nat_lt bytes 63) r m' e =
    gal_tests (nat_lt bytes 2) (nat_eq number 1019) (nat_lt bytes 61) (nat_eq number 1046) (nat_lt bytes 63)
    (nat_le 1 m.satellite && nat_le m.satellite 32) (nat_lt m.toe 37800 && nat_lt m.toc 37800)
    (nat_le 1 m'.satellite && nat_le m'.satellite 36) (nat_lt m'.toe 10080 && nat_lt m'.toc 10080) (is_sisa m'.sisa)
    number r m m' e h in
    let number_is : nat_eq number 1046 ≡ true = known.number in
    let long : nat_lt bytes 63 ≡ false = known.long in
    record { number_is = grind (arith, nat_tests); long = grind (arith, nat_tests); week = known.week; same = known.same }

-- what is accepted
pub good_1019 : (m : Message1019) → 1 ≤ m.satellite → m.satellite ≤ 32 → m.toe < 37800 → m.toc < 37800
    → judged_1019 m ≡ Ok (OfGps (content_1019 m))
good_1019 m low high toe toc =
    let sat : nat_le 1 m.satellite && nat_le m.satellite 32 ≡ true = grind (arith, nat_tests) in
    let times : nat_lt m.toe 37800 && nat_lt m.toc 37800 ≡ true = grind (arith, nat_tests) in
    ap (λ b. judged_gps b (nat_lt m.toe 37800 && nat_lt m.toc 37800) m) sat ∙ ap (λ b. judged_gps true b m) times

pub good_1046 : (m : Message1046) → 1 ≤ m.satellite → m.satellite ≤ 36 → m.toe < 10080 → m.toc < 10080 → is_sisa m.sisa ≡ true
    → judged_1046 m ≡ Ok (OfGal (content_1046 m))
good_1046 m low high toe toc sisa =
    let sat : nat_le 1 m.satellite && nat_le m.satellite 36 ≡ true = grind (arith, nat_tests) in
    let times : nat_lt m.toe 10080 && nat_lt m.toc 10080 ≡ true = grind (arith, nat_tests) in
    ap (λ b. judged_gal b (nat_lt m.toe 10080 && nat_lt m.toc 10080) (is_sisa m.sisa) m) sat
    ∙ ap (λ b. judged_gal true b (is_sisa m.sisa) m) times ∙ ap (λ b. judged_gal true true b m) sisa

-- the content of a payload that is long enough and has its message number
pub content_gps : (bytes : ℕ) (m : Message1019) (m' : Message1046) → 61 ≤ bytes → content_by bytes 1019 m m' ≡ judged_1019 m
content_gps bytes m m' long =
    let some : nat_lt bytes 2 ≡ false = grind (arith, nat_tests) in
    let whole : nat_lt bytes 61 ≡ false = grind (arith, nat_tests) in
    ap (λ b. by_tests b true (nat_lt bytes 61) false (nat_lt bytes 63) 1019 (judged_1019 m) (judged_1046 m')) some
    ∙ ap (λ b. by_tests false true b false (nat_lt bytes 63) 1019 (judged_1019 m) (judged_1046 m')) whole

pub content_gal : (bytes : ℕ) (m : Message1019) (m' : Message1046) → 63 ≤ bytes → content_by bytes 1046 m m' ≡ judged_1046 m'
content_gal bytes m m' long =
    let some : nat_lt bytes 2 ≡ false = grind (arith, nat_tests) in
    let whole : nat_lt bytes 63 ≡ false = grind (arith, nat_tests) in
    ap (λ b. by_tests b false (nat_lt bytes 61) true (nat_lt bytes 63) 1046 (judged_1019 m) (judged_1046 m')) some
    ∙ ap (λ b. by_tests false false (nat_lt bytes 61) true b 1046 (judged_1019 m) (judged_1046 m')) whole
