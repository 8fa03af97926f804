-- The messages of items that are whole: each is read as its ephemeris, and its frame stands by itself.
use Rattle.std.proofs.Common.{◌≡◌, ℕ, ◌≤◌, List, [], ◌∷◌, ◌++◌, length, map, refl, ap, ◌∙◌, arith}
use Rattle.std.specs.Prelude.{Result, Ok, All}
use Rattle.std.specs.List.{flat_map}
use Rattle.std.proofs.lemmas.List.Elements.{All-contains, All-head, All-tail}
use Rattle.nav_bits.specs.Fields.{StandFrom}
use Rattle.nav_bits.specs.Packed.{AreBytes}
use Rattle.nav_eph.specs.Weeks.{IsNearGalileo, IsNearGps, IsReference}
use Rattle.nav_eph.specs.Items.{unsent}
use Rattle.nav_eph.specs.Ranges.{HasGalRanges, HasGpsRanges, IsItem}
use Rattle.nav_eph.specs.declared.items.GpsEph.{GpsEph}
use Rattle.nav_eph.specs.declared.items.GalEph.{GalEph}
use Rattle.nav_eph.specs.declared.items.NavItem.{NavItem}
use Rattle.nav_eph.specs.declared.items.NavItem.TheVariants.{Gps, Gal, Ion}
use Rattle.nav_eph.specs.declared.items.SentSecond.TheVariants.{Unknown}
use Rattle.rinex_read.specs.RoundTrip.{AreItems}
use Rattle.rinex_write.specs.Texts3.{ephemerides}
use Rattle.rtcm_eph.specs.declared.fault.MessageFault.{MessageFault}
use Rattle.rtcm_eph.specs.Messages.{fields_1019, fields_1046}
use Rattle.rtcm_eph.specs.Reading.{GivesItem, content_of, item_in}
use Rattle.rtcm_eph.specs.RoundTrip.{Begins1019, Begins1046, IsGal, IsGps}
use Rattle.rtcm_eph.specs.Writing.{bytes_1019, bytes_1046, message_1019, message_1046}
use Rattle.framing.specs.Frames.{frames}
use Rattle.framing.specs.State.{payload_of}
use Rattle.framing.specs.Writing.{frame_bytes}
use Rattle.streams.specs.ItemTexts.{rtcm_item}
use Rattle.job_laws.specs.Converted.{AreSent, IsNear}

-- what the crates below say of messages and frames
pub record MessageLaws : Type 0 where
  pub gives : (r : ℕ) (payload : List ℕ) → IsReference r → GivesItem r (content_of payload) (item_in r payload)
  pub fields_gps : (e : GpsEph) → HasGpsRanges e → StandFrom (bytes_1019 e) 0 0 (fields_1019 (message_1019 e))
  pub fields_gal : (e : GalEph) → HasGalRanges e → StandFrom (bytes_1046 e) 0 0 (fields_1046 (message_1046 e))
  pub size_gps : (e : GpsEph) → AreBytes 61 (bytes_1019 e)
  pub size_gal : (e : GalEph) → AreBytes 63 (bytes_1046 e)
  pub read_gps : (e : GpsEph) (payload : List ℕ) (r : ℕ) (answer : Result NavItem MessageFault) → IsGps e → IsNearGps r e.toe_week
      → Begins1019 payload e → GivesItem r (content_of payload) answer → answer ≡ Ok (Gps (record e { sent = Unknown }))
  pub read_gal : (e : GalEph) (payload : List ℕ) (r : ℕ) (answer : Result NavItem MessageFault) → IsGal e
      → IsNearGalileo r e.toe_week
      → Begins1046 payload e → GivesItem r (content_of payload) answer → answer ≡ Ok (Gal (record e { sent = Unknown }))
  pub payload : (payload : List ℕ) → payload_of (frame_bytes payload) ≡ payload
  pub behind : (payload more : List ℕ) → length payload ≤ 1023
      → frames (frame_bytes payload ++ more) ≡ frame_bytes payload ∷ frames more

module _ (laws : MessageLaws) where
  -- ---- as messages

  gps_read : (r : ℕ) (e : GpsEph) → IsReference r → IsItem (Gps e) → IsNearGps r e.toe_week
      → item_in r (bytes_1019 e) ≡ Ok (unsent (Gps e))
  gps_read r e week whole near =
      laws.read_gps e (bytes_1019 e) r (item_in r (bytes_1019 e))
      (record { whole = whole.whole; number = whole.ranges.sat; toe = whole.ranges.a.toe; toc = whole.ranges.clock.toc })
      near
      (record { long = omega (arith, (laws.size_gps e).count_is); fields = laws.fields_gps e whole.ranges })
      (laws.gives r (bytes_1019 e) week)

  gal_read : (r : ℕ) (e : GalEph) → IsReference r → IsItem (Gal e) → IsNearGalileo r e.toe_week
      → item_in r (bytes_1046 e) ≡ Ok (unsent (Gal e))
  gal_read r e week whole near =
      laws.read_gal e (bytes_1046 e) r (item_in r (bytes_1046 e))
      (record {
        whole = whole.whole;
        number = whole.ranges.sat;
        toe = whole.ranges.w1.toe;
        toc = whole.ranges.w4.toc;
        sisa = whole.ranges.w3.sisa;
      })
      near
      (record { long = omega (arith, (laws.size_gal e).count_is); fields = laws.fields_gal e whole.ranges })
      (laws.gives r (bytes_1046 e) week)

  item_read : (r : ℕ) (item : NavItem) → IsReference r → IsItem item → IsNear r item
      → item_in r (payload_of (rtcm_item item)) ≡ Ok (unsent item)
  unfolding rtcm_item
  item_read r (Gps e) week whole near = ap (item_in r) (laws.payload (bytes_1019 e)) ∙ gps_read r e week whole near
  item_read r (Gal e) week whole near = ap (item_in r) (laws.payload (bytes_1046 e)) ∙ gal_read r e week whole near
  item_read r (Ion e) week whole near = absurd near

  pub items_sent : (is : List NavItem) → All IsItem is → AreSent is
  items_sent is whole r item week there near = item_read r item week (All-contains IsItem is item whole there) near

  -- ---- as frames

  pub framed : (is : List NavItem) → frames (flat_map rtcm_item is) ≡ map rtcm_item (ephemerides is)
  unfolding rtcm_item
  framed [] = refl
  framed (Gps e ∷ is) =
      laws.behind (bytes_1019 e) (flat_map rtcm_item is) (omega (arith, (laws.size_gps e).count_is))
      ∙ ap (λ (l : List (List ℕ)). frame_bytes (bytes_1019 e) ∷ l) (framed is)
  framed (Gal e ∷ is) =
      laws.behind (bytes_1046 e) (flat_map rtcm_item is) (omega (arith, (laws.size_gal e).count_is))
      ∙ ap (λ (l : List (List ℕ)). frame_bytes (bytes_1046 e) ∷ l) (framed is)
  framed (Ion e ∷ is) = framed is

-- ---- as records

pub are_items : (is : List NavItem) → All IsItem is → AreItems is
are_items [] whole = tt
are_items (i ∷ is) whole = (All-head IsItem i is whole, are_items is (All-tail IsItem i is whole))
