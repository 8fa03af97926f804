-- What is written of a capture: the items of the periods of the parts received, which can be read back.
use Rattle.std.specs.Prelude.{◌≡◌, ℕ, List, map, Contains, Ok}
use Rattle.std.specs.List.{flat_map}
use Rattle.nav_eph.specs.Weeks.{IsNearGalileo, IsNearGps, IsReference}
use Rattle.nav_eph.specs.Items.{unsent}
use Rattle.nav_eph.specs.declared.items.NavItem.{NavItem}
use Rattle.nav_eph.specs.declared.items.NavItem.TheVariants.{Gps, Gal, Ion}
use Rattle.periods.specs.PeriodLists.{ArePeriods, items_in}
use Rattle.periods.specs.declared.closed.Closed.{Closed}
use Rattle.rinex_write.specs.Texts.{rinex_text}
use Rattle.rinex_write.specs.Texts3.{ephemerides, rinex3_text}
use Rattle.rinex_write.specs.declared.words.HeaderWords.{HeaderWords}
use Rattle.rinex_read.specs.Files.{rinex_list}
use Rattle.rinex_read.specs.Form3.{rinex3_list}
use Rattle.framing.specs.Frames.{frames}
use Rattle.framing.specs.State.{payload_of}
use Rattle.rtcm_eph.specs.Reading.{item_in}
use Rattle.streams.specs.ItemTexts.{rtcm_item}
use Rattle.capture_log.specs.Received.{IsPartReceived}
use Rattle.capture_log.specs.Log.{line_items_of}
use Rattle.captures.specs.Captures.{Capture}

-- the list of the periods of the parts that are received in the capture
abbrev pub ArePeriodsReceived : Capture → List Closed → Type 0
ArePeriodsReceived c periods = ArePeriods c.week c.window (IsPartReceived c.window (line_items_of c.lines)) periods

-- the toe week of an ephemeris is the one that its truncated week number resolves to near the reference week r
abbrev pub IsNear : ℕ → NavItem → Type 0
IsNear r (Gps e) = IsNearGps r e.toe_week
IsNear r (Gal e) = IsNearGalileo r e.toe_week
IsNear r (Ion e) = ⊥

-- the message of each ephemeris is read back as it for such a reference week, without its transmission time
abbrev pub AreSent : List NavItem → Type 0
AreSent items =
    (r : ℕ) (item : NavItem) → IsReference r → Contains items item → IsNear r item
    → item_in r (payload_of (rtcm_item item)) ≡ Ok (unsent item)

-- the text is that of the items of the periods received; it reads back as these, and the RTCM message of each ephemeris as it
pub record IsConverted (c : Capture) (header : HeaderWords) (text : List ℕ) : Type 0 where
  pub periods : List Closed
  pub are : ArePeriodsReceived c periods
  pub text_is : text ≡ rinex_text header (items_in periods)
  pub back : rinex_list text ≡ items_in periods
  pub messages : AreSent (items_in periods)

-- the same in RINEX 3, which has no ionosphere records
pub record IsConverted3 (c : Capture) (header : HeaderWords) (text : List ℕ) : Type 0 where
  pub periods : List Closed
  pub are : ArePeriodsReceived c periods
  pub text_is : text ≡ rinex3_text header (items_in periods)
  pub back : rinex3_list text ≡ ephemerides (items_in periods)

-- the text is the frames of the ephemerides of the periods received, and has no other frames; each message reads back as its
-- ephemeris
pub record IsFramed (c : Capture) (text : List ℕ) : Type 0 where
  pub periods : List Closed
  pub are : ArePeriodsReceived c periods
  pub text_is : text ≡ flat_map rtcm_item (items_in periods)
  pub frames_are : frames text ≡ map rtcm_item (ephemerides (items_in periods))
  pub messages : AreSent (items_in periods)

-- the RINEX text of the items reads back as them, and the RTCM message of each ephemeris as it
pub record ComeBack (header : HeaderWords) (items : List NavItem) : Type 0 where
  pub back : rinex_list (rinex_text header items) ≡ items
  pub messages : AreSent items
