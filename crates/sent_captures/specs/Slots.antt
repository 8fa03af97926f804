-- What is sent of an ephemeris: the subframes of GPS (IS-GPS-200, 20.3.2) or the pages of Galileo (OS SIS ICD, 4.3.2), in a
-- slot of six hours of its own.
use Rattle.std.specs.Prelude.{ℕ, pos, ◌+◌, ◌-◌, ◌*◌, ◌/◌, ◌%◌, List, [], ◌∷◌, ◌++◌}
use Rattle.nav_eph.specs.Satellite.{Satellite}
use Rattle.nav_eph.specs.declared.items.GpsEph.{GpsEph}
use Rattle.nav_eph.specs.declared.items.GalEph.{GalEph}
use Rattle.nav_eph.specs.declared.items.NavItem.{NavItem}
use Rattle.nav_eph.specs.declared.items.NavItem.TheVariants.{Gps, Gal, Ion}
use Rattle.nav_eph.specs.declared.ion.GalIon.{GalIon}
use Rattle.lnav_subframe.specs.declared.out.SubframeOut.{SubframeOut}
use Rattle.lnav_subframe.specs.declared.out.SubframeOut.TheVariants.{Clock, OrbitA, OrbitB}
use Rattle.lnav_subframe.specs.Bytes.{subframe_bytes}
use Rattle.inav.specs.Writing.{word1_bytes, word2_bytes, word3_bytes, word4_bytes, word5_bytes}
use Rattle.inav.specs.Pages.{bytes_of_half, even_of, odd_of}
use Rattle.nav_eph.specs.declared.signal.Signal.TheVariants.{E1b}
use Rattle.capture_lines.specs.Texts.{half_text, lnav_text}
use Rattle.capture_lines.specs.declared.item.LineItem.{LineItem}
use Rattle.capture_lines.specs.declared.item.LineItem.TheVariants.{Pass, Lnav, Half, Frame, Malformed}

-- the time tag at which a slot begins, one every six hours
abbrev pub slot_stamp : ℕ → ℕ
slot_stamp slot = 21600 * slot

-- toe as a second of the week
abbrev pub gps_second : GpsEph → ℕ
gps_second e = 16 * e.a.toe

abbrev pub galileo_second : GalEph → ℕ
galileo_second e = 60 * e.w1.toe

-- the time of week of the first GPS subframe: toe rounded down to a multiple of the 6 s of a subframe
abbrev pub gps_transmission : GpsEph → ℕ
gps_transmission e = gps_second e - gps_second e % 6

-- The TOW count of subframe 1 to 3, which is the start of the next one; a week has 100,800 counts.
abbrev pub count_of : GpsEph → ℕ → ℕ
count_of e number = (gps_transmission e / 6 + number) % 100800

-- the week of toe as GPS's 10-bit and as Galileo's 12-bit week number, which counts from GPS week 1024
abbrev pub gps_week_number : GpsEph → ℕ
gps_week_number e = e.toe_week % 1024

abbrev pub galileo_week_number : GalEph → ℕ
galileo_week_number e = (e.toe_week + 3072) % 4096

-- ionosphere parameters and disturbance flags that are all 0
abbrev pub no_ionosphere : GalIon
no_ionosphere = record { ai0 = 0; ai1 = pos 0; ai2 = pos 0; regions = 0 }

-- a subframe with its TOW count, at a time tag
unfoldable pub subframe_item : ℕ → Satellite → SubframeOut → ℕ → LineItem
subframe_item stamp sat body tow_count = Lnav stamp sat (subframe_bytes body tow_count)

-- a page part on E1-B, at a time tag
unfoldable pub half_item : ℕ → Satellite → ℕ → LineItem
half_item stamp sat half = Half stamp sat E1b (bytes_of_half half)

-- the page of a word on E1-B: the even part at the time tag, the odd part one second later
abbrev pub page_items : ℕ → Satellite → List ℕ → List LineItem
page_items stamp sat word =
    half_item stamp sat (even_of word) ∷ half_item (stamp + 1) sat (odd_of word) ∷ []

-- subframes 1, 2 and 3, one every six seconds
abbrev pub gps_items : ℕ → GpsEph → List LineItem
gps_items s e =
    subframe_item s e.sat (Clock e.clock e.side (gps_week_number e)) (count_of e 1)
    ∷ subframe_item (s + 6) e.sat (OrbitA e.a e.fit) (count_of e 2)
    ∷ subframe_item (s + 12) e.sat (OrbitB e.b) (count_of e 3) ∷ []

-- word types 1 to 5, one every two seconds; word type 5 has the health, the week and the second of toe
abbrev pub galileo_items : ℕ → GalEph → List LineItem
galileo_items s e =
    page_items s e.sat (word1_bytes e.w1)
    ++ (page_items (s + 2) e.sat (word2_bytes e.w2)
    ++ (page_items (s + 4) e.sat (word3_bytes e.w3)
    ++ (page_items (s + 6) e.sat (word4_bytes e.w4 e.sat.number)
    ++ page_items (s + 8) e.sat
    (word5_bytes e.health no_ionosphere (galileo_week_number e) (galileo_second e)))))

-- what is sent from a time tag on; nothing of ionosphere parameters
abbrev pub items_at : ℕ → NavItem → List LineItem
items_at s (Gps e) = gps_items s e
items_at s (Gal e) = galileo_items s e
items_at s (Ion e) = []

-- what is sent in a slot
abbrev pub slot_items : ℕ → NavItem → List LineItem
slot_items slot item = items_at (slot_stamp slot) item

-- the line of an item that is sent, with its end
abbrev pub text_of_item : LineItem → List ℕ
text_of_item (Lnav stamp sat bits) = lnav_text stamp sat bits
text_of_item (Half stamp sat signal bits) = half_text stamp sat signal bits
text_of_item Pass = []
text_of_item (Frame stamp bytes) = []
text_of_item Malformed = []

-- the lines of what is sent, concatenated
abbrev pub text_of_items : List LineItem → List ℕ
text_of_items [] = []
text_of_items (x ∷ xs) = text_of_item x ++ text_of_items xs

-- the lines of a slot
unfoldable pub slot_text : ℕ → NavItem → List ℕ
slot_text slot item = text_of_items (slot_items slot item)
