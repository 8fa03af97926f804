-- Captures that receive what was transmitted at other seconds: each part at least once, whichever of its transmissions.
use Rattle.std.specs.Prelude.{◌≡◌, ℕ, ◌+◌, ◌*◌, ◌<◌, ◌≤◌, not, List, Contains, Some, filter}
use Rattle.nav_io.specs.Lines.{Line}
use Rattle.nav_eph.specs.declared.part.Part.{Part}
use Rattle.nav_eph.specs.declared.part.Body.{Body}
use Rattle.nav_eph.specs.declared.part.Body.TheVariants.{GalW1, GalW2, GalW3, GalW4, GalIon}
use Rattle.nav_eph.specs.declared.items.NavItem.{NavItem}
use Rattle.capture_lines.specs.Late.{stamp_of}
use Rattle.capture_lines.specs.declared.item.LineItem.{LineItem}
use Rattle.capture_lines.specs.declared.item.LineItem.TheVariants.{Pass, Lnav, Half, Frame, Malformed}
use Rattle.capture_log.specs.Log.{line_items_of, parts_of}
use Rattle.sent_captures.specs.Sendable.{is_ephemeris}
use Rattle.sent_captures.specs.Slots.{slot_stamp}

-- the second is one of the first two hours of the slot
pub record IsInSlot (slot second : ℕ) : Type 0 where
  pub begun : slot_stamp slot ≤ second
  pub near : second ≤ slot_stamp slot + 7200

-- the first part is the second one, received at whichever second of the first two hours of its slot
pub record IsSentAgain (again sent : Part) : Type 0 where
  pub sat : again.sat ≡ sent.sat
  pub body : again.body ≡ sent.body
  pub slot : ℕ
  pub sent_in : IsInSlot slot sent.stamp
  pub again_in : IsInSlot slot again.stamp

-- But for their time tags the received parts are those that were sent: each is one of them, and each of them was received at least
-- once.
pub record AreSentAgain (received sent : List Part) : Type 0 where
  pub each : (p : Part) → Contains received p → (q : Part) × Contains sent q × IsSentAgain p q
  pub every : (q : Part) → Contains sent q → (p : Part) × Contains received p × IsSentAgain p q

-- the content is one of Galileo's word types 1 to 4
abbrev pub IsWord : Body → Type 0
IsWord (GalW1 word) = Unit {0}
IsWord (GalW2 word) = Unit {0}
IsWord (GalW3 word) = Unit {0}
IsWord (GalW4 word) = Unit {0}
IsWord body = ⊥

-- the content is the ionosphere of Galileo's word type 5
abbrev pub IsIonosphere : Body → Type 0
IsIonosphere (GalIon ionosphere wn second) = Unit {0}
IsIonosphere body = ⊥

-- in some slot an ionosphere was received before a word type 1 to 4
pub record AreTurned (parts : List Part) : Type 0 where
  pub ionosphere : Part
  pub word : Part
  pub ionosphere_here : Contains parts ionosphere
  pub word_here : Contains parts word
  pub is_ionosphere : IsIonosphere ionosphere.body
  pub is_word : IsWord word.body
  pub slot : ℕ
  pub ionosphere_in : IsInSlot slot ionosphere.stamp
  pub word_in : IsInSlot slot word.stamp
  pub earlier : ionosphere.stamp < word.stamp

-- each part of the first lines is received of the second, at whichever second of its slot
abbrev pub IsReceivedAgain : List Line → List Line → Type 0
IsReceivedAgain sent received =
    (q : Part) → Contains (parts_of 7200 sent) q → (p : Part) × Contains (parts_of 7200 received) p × IsSentAgain p q

-- the item of a line, with a later time tag
abbrev pub delayed : ℕ → LineItem → LineItem
delayed seconds Pass = Pass
delayed seconds (Lnav stamp sat bits) = Lnav (stamp + seconds) sat bits
delayed seconds (Half stamp sat signal bits) = Half (stamp + seconds) sat signal bits
delayed seconds (Frame stamp bytes) = Frame (stamp + seconds) bytes
delayed seconds Malformed = Malformed

-- The item was sent again: every 30 s, as long as a frame of LNAV or a subframe of I/NAV lasts, for two hours.
pub record IsRepeat (item sent : LineItem) : Type 0 where
  pub number : ℕ
  pub few : number < 240
  pub is : item ≡ delayed (30 * number) sent

-- each line of the first with a time tag is one of the second, sent at once or again
abbrev pub AreRepeats : List Line → List Line → Type 0
AreRepeats received sent =
    (item : LineItem) (s : ℕ) → stamp_of item ≡ Some s → Contains (line_items_of received) item
    → (original : LineItem) × Contains (line_items_of sent) original × IsRepeat item original

-- the same ephemerides in the same order, and the same ionosphere parameters in the same order
pub record SameByType (some other : List NavItem) : Type 0 where
  pub ephemerides : filter is_ephemeris some ≡ filter is_ephemeris other
  pub ionospheres : filter (λ x. not (is_ephemeris x)) some ≡ filter (λ x. not (is_ephemeris x)) other
