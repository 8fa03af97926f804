-- What a message carries: its item is `item_in`, each field within its width.
use Rattle.std.proofs.Common.{◌≡◌, ℕ, ◌*◌, ◌<◌, ◌≤◌, ◌^◌, ◌&&◌, ◌||◌, IfOk, All, List, length, nat_eq, nat_le, nat_lt, true, false, Bool, Result, Ok, Err, inl, inr, refl, ap, ◌∙◌, subst, arith}
use Rattle.std.specs.List.{AllByRecursion}
use Rattle.std.proofs.lemmas.Bool.{and_parts, cond_both, eqb-true, leb-true, ltb-true}
use Rattle.std.proofs.lemmas.List.Elements.{All-from_recursion, All-weaker}
use Rattle.nav_eph.specs.Functions.{galileo_week_to, gps_week_to}
use Rattle.nav_eph.specs.Weeks.{IsGalileoWeek, IsGpsWeek, IsReference, IsWeek}
use Rattle.nav_eph.proofs.Surface.{galileo_week-meant, galileo_week-only, gps_week-meant, gps_week-only}
use Rattle.nav_bits.specs.Bits.{number_at}
use Rattle.nav_bits.specs.Laws.{number_at-lt}
use Rattle.nav_bits.proofs.Surface.{signed_of-fits}
use Rattle.nav_eph.specs.Bodies.{IsGalHealth, IsGpsSide}
use Rattle.nav_eph.specs.Conditions.{IsPart}
use Rattle.nav_eph.specs.Ranges.{IsItem, IsGpsClock, IsGpsOrbitA, IsGpsOrbitB, IsGalWord1, IsGalWord2, IsGalWord3, IsGalWord4}
use Rattle.nav_eph.specs.Satellite.{IsSat}
use Rattle.nav_eph.specs.Steps.{IsSisa, IsStep16, IsStep60}
use Rattle.nav_eph.specs.Values.{HasPartRanges, IsPartValue}
use Rattle.nav_eph.specs.declared.sat.System.TheVariants.{Gps as GpsSystem, Gal as GalSystem}
use Rattle.nav_eph.specs.declared.items.NavItem.{NavItem}
use Rattle.nav_eph.specs.declared.items.NavItem.TheVariants.{Gps as GpsItem, Gal as GalItem, Ion as IonItem}
use Rattle.nav_eph.specs.declared.part.Part.{Part}
use Rattle.rtcm_eph.specs.declared.content.EphemerisMessage.{EphemerisMessage}
use Rattle.rtcm_eph.specs.declared.content.GpsContent.{GpsContent}
use Rattle.rtcm_eph.specs.declared.content.GalContent.{GalContent}
use Rattle.rtcm_eph.specs.declared.content.EphemerisMessage.TheVariants.{Gps as OfGps, Gal as OfGal}
use Rattle.rtcm_eph.specs.declared.fault.MessageFault.{MessageFault}
use Rattle.rtcm_eph.specs.declared.read.MessageParts.{MessageParts}
use Rattle.rtcm_eph.specs.Messages.{message1019_at, message1046_at}
use Rattle.rtcm_eph.specs.Reading.{GivesItem, all_parts, content_1019, content_1046, content_of, gal_eph, gal_parts, gps_eph, gps_parts, is_sisa, item_in, item_of, judged_1019, judged_1046, parts_of}

-- ---- the fields of what is read are within their bits

record HasGpsFields (c : GpsContent) : Type 0 where
  system : c.sat.system ≡ GpsSystem
  sat : IsSat c.sat.system c.sat.number
  week : c.week < 1024
  clock : IsGpsClock c.clock
  side : IsGpsSide c.side
  a : IsGpsOrbitA c.a
  fit : c.fit < 2 ^ 1
  b : IsGpsOrbitB c.b
  issue : c.a.iode ≡ c.b.iode

record HasGalFields (c : GalContent) : Type 0 where
  system : c.sat.system ≡ GalSystem
  sat : IsSat c.sat.system c.sat.number
  week : c.week < 4096
  w1 : IsGalWord1 c.w1
  w2 : IsGalWord2 c.w2
  w3 : IsGalWord3 c.w3
  w4 : IsGalWord4 c.w4
  health : IsGalHealth c.health
  issue2 : c.w2.iodnav ≡ c.w1.iodnav
  issue3 : c.w3.iodnav ≡ c.w1.iodnav
  issue4 : c.w4.iodnav ≡ c.w1.iodnav

abbrev HasFields : Result EphemerisMessage MessageFault → Type 0
HasFields (Ok (OfGps c)) = HasGpsFields c
HasFields (Ok (OfGal c)) = HasGalFields c
HasFields (Err fault) = Unit {0}

fields_1019_fit : (bits : List ℕ) → 1 ≤ (message1019_at bits 0).satellite → (message1019_at bits 0).satellite ≤ 32
    → IsStep16 (message1019_at bits 0).toe → IsStep16 (message1019_at bits 0).toc → HasGpsFields (content_1019 (message1019_at bits 0))
fields_1019_fit bits low high toe toc = record {
  system = refl;
  sat = (low, high);
  week = number_at-lt bits 18 10;
  clock = record { iodc = number_at-lt bits 118 10; toc = toc; af2 = signed_of-fits 8 (number_at bits 72 8) (omega arith) (number_at-lt bits 72 8); af1 = signed_of-fits 16 (number_at bits 80 16) (omega arith) (number_at-lt bits 80 16); af0 = signed_of-fits 22 (number_at bits 96 22) (omega arith) (number_at-lt bits 96 22); tgd = signed_of-fits 8 (number_at bits 472 8) (omega arith) (number_at-lt bits 472 8) };
  side = record { l2_code = number_at-lt bits 32 2; ura = number_at-lt bits 28 4; health = number_at-lt bits 480 6; l2p = number_at-lt bits 486 1 };
  a = record { iode = number_at-lt bits 48 8; crs = signed_of-fits 16 (number_at bits 128 16) (omega arith) (number_at-lt bits 128 16); delta_n = signed_of-fits 16 (number_at bits 144 16) (omega arith) (number_at-lt bits 144 16); m0 = signed_of-fits 32 (number_at bits 160 32) (omega arith) (number_at-lt bits 160 32); cuc = signed_of-fits 16 (number_at bits 192 16) (omega arith) (number_at-lt bits 192 16); e = number_at-lt bits 208 32; cus = signed_of-fits 16 (number_at bits 240 16) (omega arith) (number_at-lt bits 240 16); root_a = number_at-lt bits 256 32; toe = toe };
  fit = number_at-lt bits 487 1;
  b = record { iode = number_at-lt bits 48 8; cic = signed_of-fits 16 (number_at bits 304 16) (omega arith) (number_at-lt bits 304 16); omega0 = signed_of-fits 32 (number_at bits 320 32) (omega arith) (number_at-lt bits 320 32); cis = signed_of-fits 16 (number_at bits 352 16) (omega arith) (number_at-lt bits 352 16); i0 = signed_of-fits 32 (number_at bits 368 32) (omega arith) (number_at-lt bits 368 32); crc = signed_of-fits 16 (number_at bits 400 16) (omega arith) (number_at-lt bits 400 16); omega = signed_of-fits 32 (number_at bits 416 32) (omega arith) (number_at-lt bits 416 32); omega_dot = signed_of-fits 24 (number_at bits 448 24) (omega arith) (number_at-lt bits 448 24); idot = signed_of-fits 14 (number_at bits 34 14) (omega arith) (number_at-lt bits 34 14) };
  issue = refl;
}

fields_1046_fit : (bits : List ℕ) → 1 ≤ (message1046_at bits 0).satellite → (message1046_at bits 0).satellite ≤ 36
    → IsStep60 (message1046_at bits 0).toe → IsStep60 (message1046_at bits 0).toc → IsSisa (message1046_at bits 0).sisa
    → HasGalFields (content_1046 (message1046_at bits 0))
fields_1046_fit bits low high toe toc sisa = record {
  system = refl;
  sat = (low, high);
  week = number_at-lt bits 18 12;
  w1 = record { iodnav = number_at-lt bits 30 10; toe = toe; m0 = signed_of-fits 32 (number_at bits 166 32) (omega arith) (number_at-lt bits 166 32); e = number_at-lt bits 214 32; root_a = number_at-lt bits 262 32 };
  w2 = record { iodnav = number_at-lt bits 30 10; omega0 = signed_of-fits 32 (number_at bits 324 32) (omega arith) (number_at-lt bits 324 32); i0 = signed_of-fits 32 (number_at bits 372 32) (omega arith) (number_at-lt bits 372 32); omega = signed_of-fits 32 (number_at bits 420 32) (omega arith) (number_at-lt bits 420 32); idot = signed_of-fits 14 (number_at bits 48 14) (omega arith) (number_at-lt bits 48 14) };
  w3 = record { iodnav = number_at-lt bits 30 10; omega_dot = signed_of-fits 24 (number_at bits 452 24) (omega arith) (number_at-lt bits 452 24); delta_n = signed_of-fits 16 (number_at bits 150 16) (omega arith) (number_at-lt bits 150 16); cuc = signed_of-fits 16 (number_at bits 198 16) (omega arith) (number_at-lt bits 198 16); cus = signed_of-fits 16 (number_at bits 246 16) (omega arith) (number_at-lt bits 246 16); crc = signed_of-fits 16 (number_at bits 404 16) (omega arith) (number_at-lt bits 404 16); crs = signed_of-fits 16 (number_at bits 134 16) (omega arith) (number_at-lt bits 134 16); sisa = sisa };
  w4 = record { iodnav = number_at-lt bits 30 10; cic = signed_of-fits 16 (number_at bits 308 16) (omega arith) (number_at-lt bits 308 16); cis = signed_of-fits 16 (number_at bits 356 16) (omega arith) (number_at-lt bits 356 16); toc = toc; af0 = signed_of-fits 31 (number_at bits 103 31) (omega arith) (number_at-lt bits 103 31); af1 = signed_of-fits 21 (number_at bits 82 21) (omega arith) (number_at-lt bits 82 21); af2 = signed_of-fits 6 (number_at bits 76 6) (omega arith) (number_at-lt bits 76 6) };
  health = record { bgd_a = signed_of-fits 10 (number_at bits 476 10) (omega arith) (number_at-lt bits 476 10); bgd_b = signed_of-fits 10 (number_at bits 486 10) (omega arith) (number_at-lt bits 486 10); hs_e5b = number_at-lt bits 496 2; hs_e1b = number_at-lt bits 499 2; dvs_e5b = number_at-lt bits 498 1; dvs_e1b = number_at-lt bits 501 1 };
  issue2 = refl;
  issue3 = refl;
  issue4 = refl;
}

sisa_is : (n : ℕ) → is_sisa n ≡ true → IsSisa n
sisa_is n e = one (nat_le n 125) refl e
  where
    one : (b : Bool) → nat_le n 125 ≡ b → (b || nat_eq n 255) ≡ true → IsSisa n
    one true is e = inl (leb-true n 125 is)
    one false is e = inr (eqb-true n 255 e)

judged_1019_fit : (bits : List ℕ) → HasFields (judged_1019 (message1019_at bits 0))
judged_1019_fit bits =
    let m = message1019_at bits 0 in
    cond_both (nat_le 1 m.satellite && nat_le m.satellite 32) _ _ HasFields
    (λ sat. cond_both (nat_lt m.toe 37800 && nat_lt m.toc 37800) _ _ HasFields
    (λ time. fields_1019_fit bits (leb-true 1 m.satellite (and_parts _ _ sat).0) (leb-true m.satellite 32 (and_parts _ _ sat).1)
    (ltb-true m.toe 37800 (and_parts _ _ time).0) (ltb-true m.toc 37800 (and_parts _ _ time).1))
    (λ none. tt))
    (λ none. tt)

judged_1046_fit : (bits : List ℕ) → HasFields (judged_1046 (message1046_at bits 0))
judged_1046_fit bits =
    let m = message1046_at bits 0 in
    cond_both (nat_le 1 m.satellite && nat_le m.satellite 36) _ _ HasFields
    (λ sat. cond_both (nat_lt m.toe 10080 && nat_lt m.toc 10080) _ _ HasFields
    (λ time. cond_both (is_sisa m.sisa) _ _ HasFields
    (λ sisa. fields_1046_fit bits (leb-true 1 m.satellite (and_parts _ _ sat).0) (leb-true m.satellite 36 (and_parts _ _ sat).1)
    (ltb-true m.toe 10080 (and_parts _ _ time).0) (ltb-true m.toc 10080 (and_parts _ _ time).1) (sisa_is m.sisa sisa))
    (λ none. tt))
    (λ none. tt))
    (λ none. tt)

content_fits : (payload : List ℕ) → HasFields (content_of payload)
content_fits payload =
    let number = number_at payload 0 12 in
    cond_both (nat_lt (length payload) 2) _ _ HasFields (λ e. tt) (λ e.
    cond_both (nat_eq number 1019) _ _ HasFields
    (λ e. cond_both (nat_lt (length payload) 61) _ _ HasFields (λ e. tt) (λ e. judged_1019_fit payload))
    (λ e. cond_both (nat_eq number 1046) _ _ HasFields
    (λ e. cond_both (nat_lt (length payload) 63) _ _ HasFields (λ e. tt) (λ e. judged_1046_fit payload)) (λ e. tt)))

-- ---- the item

-- each answer is that of `item_in`
gives_only : (r : ℕ) (x : Result EphemerisMessage MessageFault) (answer : Result NavItem MessageFault) → GivesItem r x answer → answer ≡ item_of r x
gives_only r (Ok (OfGps c)) (Ok (GpsItem e)) is = let week : e.toe_week ≡ gps_week_to r c.week = gps_week-only r c.week e.toe_week is.0 in ap (λ x. Ok (GpsItem x)) is.1 ∙ ap (λ w. Ok (GpsItem (gps_eph c w))) week
gives_only r (Ok (OfGal c)) (Ok (GalItem e)) is = let week : e.toe_week ≡ galileo_week_to r c.week = galileo_week-only r c.week e.toe_week is.0 in ap (λ x. Ok (GalItem x)) is.1 ∙ ap (λ w. Ok (GalItem (gal_eph c w))) week
gives_only r (Ok (OfGps c)) (Ok (GalItem e)) is = absurd is
gives_only r (Ok (OfGps c)) (Ok (IonItem e)) is = absurd is
gives_only r (Ok (OfGal c)) (Ok (GpsItem e)) is = absurd is
gives_only r (Ok (OfGal c)) (Ok (IonItem e)) is = absurd is
gives_only r (Ok content) (Err fault) is = absurd is
gives_only r (Err fault) (Ok item) is = absurd is
gives_only r (Err fault) (Err answer) is = ap Err is

pub item_only : (r : ℕ) (payload : List ℕ) (answer : Result NavItem MessageFault) → GivesItem r (content_of payload) answer → answer ≡ item_in r payload
unfolding item_in
item_only r payload answer gives = gives_only r (content_of payload) answer gives

gives_by : (r : ℕ) (x : Result EphemerisMessage MessageFault) → IsReference r → HasFields x → GivesItem r x (item_of r x)
gives_by r (Ok (OfGps c)) reference has = (gps_week-meant r c.week reference has.week, refl)
gives_by r (Ok (OfGal c)) reference has = (galileo_week-meant r c.week reference has.week, refl)
gives_by r (Err fault) reference has = refl

pub item_gives : (r : ℕ) (payload : List ℕ) → IsReference r → GivesItem r (content_of payload) (item_in r payload)
unfolding item_in
item_gives r payload reference = gives_by r (content_of payload) reference (content_fits payload)

-- a week near a reference week is within the range of a `Week`
gps_week_is : (r n w : ℕ) → IsReference r → IsGpsWeek r n w → IsWeek w
gps_week_is r n w reference is = (omega (arith, reference.0, is.from), omega (arith, reference.1, is.to))

galileo_week_is : (r n w : ℕ) → IsReference r → IsGalileoWeek r n w → IsWeek w
galileo_week_is r n w reference is = (omega (arith, is.from), omega (arith, reference.1, is.to))

whole_by : (r : ℕ) (x : Result EphemerisMessage MessageFault) → IsReference r → HasFields x → IfOk (item_of r x) IsItem
whole_by r (Ok (OfGps c)) reference has = record {
  ranges = record {
    sat = has.sat;
    clock = has.clock;
    side = has.side;
    a = has.a;
    fit = has.fit;
    b = has.b;
    toe_week = gps_week_is r c.week (gps_week_to r c.week) reference (gps_week-meant r c.week reference has.week);
  };
  whole = record { system = has.system; issue = has.issue; second = tt };
}
whole_by r (Ok (OfGal c)) reference has = record {
  ranges = record {
    sat = has.sat;
    w1 = has.w1;
    w2 = has.w2;
    w3 = has.w3;
    w4 = has.w4;
    health = has.health;
    toe_week = galileo_week_is r c.week (galileo_week_to r c.week) reference (galileo_week-meant r c.week reference has.week);
  };
  whole = record { system = has.system; issue2 = has.issue2; issue3 = has.issue3; issue4 = has.issue4; second = tt };
}
whole_by r (Err fault) reference has = tt

pub item_whole : (r : ℕ) (payload : List ℕ) → IsReference r → IfOk (item_in r payload) IsItem
unfolding item_in
item_whole r payload reference = whole_by r (content_of payload) reference (content_fits payload)

-- ---- the parts

-- what holds of each part
record IsReceivedPart (stamp : ℕ) (p : Part) : Type 0 where
  at : p.stamp ≡ stamp
  part : IsPart p.sat p.body
  value : stamp < 2 ^ 32 → IsPartValue p
  ranges : HasPartRanges p

abbrev AreWordsReceived : ℕ → Result MessageParts MessageFault → Type 0
AreWordsReceived stamp (Ok parts) = All (IsReceivedPart stamp) (all_parts parts)
AreWordsReceived stamp (Err fault) = Unit {0}

heard_by : (stamp : ℕ) (x : Result EphemerisMessage MessageFault) → HasFields x → AreWordsReceived stamp (parts_of stamp x)
heard_by stamp (Ok (OfGps c)) has =
    let second : 16 * c.a.toe < 604800 = omega (arith, has.a.toe) in
    let wn : c.week < 4096 = omega (arith, has.week) in
    let ten : c.week < 1024 = has.week in
    let each : AllByRecursion (IsReceivedPart stamp) (all_parts (gps_parts stamp c)) = (
      record { at = refl; part = record { system = has.system; week = ten }; value = λ low. record { stamp = low; body = (has.side, (wn, second)) }; ranges = record { sat = has.sat; body = (has.clock, has.side) } },
      (
        record { at = refl; part = record { system = has.system; week = tt }; value = λ low. record { stamp = low; body = tt }; ranges = record { sat = has.sat; body = (has.a, has.fit) } },
        (record { at = refl; part = record { system = has.system; week = tt }; value = λ low. record { stamp = low; body = tt }; ranges = record { sat = has.sat; body = has.b } }, tt),
      ),
    ) in
    All-from_recursion (IsReceivedPart stamp) (all_parts (gps_parts stamp c)) each
heard_by stamp (Ok (OfGal c)) has =
    let second : 60 * c.w1.toe < 604800 = omega (arith, has.w1.toe) in
    let each : AllByRecursion (IsReceivedPart stamp) (all_parts (gal_parts stamp c)) = (
      record { at = refl; part = record { system = has.system; week = tt }; value = λ low. record { stamp = low; body = tt }; ranges = record { sat = has.sat; body = has.w1 } },
      (
        record { at = refl; part = record { system = has.system; week = tt }; value = λ low. record { stamp = low; body = tt }; ranges = record { sat = has.sat; body = has.w2 } },
        (
          record { at = refl; part = record { system = has.system; week = tt }; value = λ low. record { stamp = low; body = tt }; ranges = record { sat = has.sat; body = has.w3 } },
          (
            record { at = refl; part = record { system = has.system; week = tt }; value = λ low. record { stamp = low; body = tt }; ranges = record { sat = has.sat; body = has.w4 } },
            (record { at = refl; part = record { system = has.system; week = tt }; value = λ low. record { stamp = low; body = (has.health, (has.week, second)) }; ranges = record { sat = has.sat; body = has.health } }, tt),
          ),
        ),
      ),
    ) in
    All-from_recursion (IsReceivedPart stamp) (all_parts (gal_parts stamp c)) each
heard_by stamp (Err fault) has = tt

heard : (payload : List ℕ) (stamp : ℕ) (parts : MessageParts) → parts_of stamp (content_of payload) ≡ Ok parts → All (IsReceivedPart stamp) (all_parts parts)
heard payload stamp parts e = subst (AreWordsReceived stamp) e (heard_by stamp (content_of payload) (content_fits payload))

pub parts_stamp : (payload : List ℕ) (stamp : ℕ) (parts : MessageParts) → parts_of stamp (content_of payload) ≡ Ok parts → All (λ part. part.stamp ≡ stamp) (all_parts parts)
parts_stamp payload stamp parts e = All-weaker (IsReceivedPart stamp) (λ part. part.stamp ≡ stamp) (λ p h. h.at) (all_parts parts) (heard payload stamp parts e)

pub parts_sendable : (payload : List ℕ) (stamp : ℕ) (parts : MessageParts) → parts_of stamp (content_of payload) ≡ Ok parts
    → All (λ part. IsPart part.sat part.body) (all_parts parts)
parts_sendable payload stamp parts e = All-weaker (IsReceivedPart stamp) (λ part. IsPart part.sat part.body) (λ p h. h.part) (all_parts parts) (heard payload stamp parts e)

pub parts_value : (payload : List ℕ) (stamp : ℕ) (parts : MessageParts) → stamp < 2 ^ 32 → parts_of stamp (content_of payload) ≡ Ok parts → All IsPartValue (all_parts parts)
parts_value payload stamp parts low e = All-weaker (IsReceivedPart stamp) IsPartValue (λ p h. h.value low) (all_parts parts) (heard payload stamp parts e)

pub parts_ranges : (payload : List ℕ) (stamp : ℕ) (parts : MessageParts) → parts_of stamp (content_of payload) ≡ Ok parts → All HasPartRanges (all_parts parts)
parts_ranges payload stamp parts e = All-weaker (IsReceivedPart stamp) HasPartRanges (λ p h. h.ranges) (all_parts parts) (heard payload stamp parts e)
