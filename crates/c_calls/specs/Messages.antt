-- Ephemeris messages, read into raw numbers and written of them.
use Rattle.std.specs.Prelude.{◌≡◌, ◌<◌, ℕ, List, length, Option, None, Some, Result, Ok, Err}
use Rattle.nav_eph.specs.declared.items.NavItem.{NavItem}
use Rattle.nav_eph.specs.declared.items.NavItem.TheVariants.{Gps, Gal, Ion}
use Rattle.framing.specs.Frames.{frame_size}
use Rattle.framing.specs.Writing.{frame_bytes}
use Rattle.rtcm_eph.specs.declared.fault.MessageFault.{MessageFault}
use Rattle.rtcm_eph.specs.declared.fault.MessageFault.TheVariants.{NoNumber, OtherMessage, Short, BadSat, BadTime, SpareSisa}
use Rattle.rtcm_eph.specs.Writing.{bytes_1019, bytes_1046}
use Rattle.raw_values.specs.declared.item_raw.ItemRaw.{ItemRaw}
use Rattle.raw_values.specs.Items.{raw_item}
use Rattle.raw_values.specs.Rooms.{IsLeft, StandsIn}

-- the bytes are one complete frame with a right checksum, and nothing else
abbrev pub IsFrame : List ℕ → Type 0
IsFrame bytes = (0 < length bytes) × (frame_size bytes ≡ length bytes)

-- the number of an error
abbrev pub message_status : MessageFault → ℕ
message_status NoNumber = 16
message_status (OtherMessage number) = 17
message_status Short = 18
message_status BadSat = 19
message_status BadTime = 20
message_status SpareSisa = 21

-- the item of a payload is put and the result is 0, or nothing is put and the result is the number
-- of the error
abbrev pub PutsMessage : Result NavItem MessageFault → ItemRaw → ItemRaw → ℕ → Type 0
PutsMessage (Ok item) old new status = (status ≡ 0) × (new ≡ raw_item item old)
PutsMessage (Err fault) old new status = (status ≡ message_status fault) × (new ≡ old)

-- the frame of the message of an ephemeris is in the buffer and the result is 0; ionospheric
-- parameters have no message
abbrev pub WritesFrame : NavItem → List ℕ → List ℕ → ℕ → ℕ → Type 0
WritesFrame (Gps e) old new used status = (status ≡ 0) × StandsIn old new used (frame_bytes (bytes_1019 e))
WritesFrame (Gal e) old new used status = (status ≡ 0) × StandsIn old new used (frame_bytes (bytes_1046 e))
WritesFrame (Ion e) old new used status = (status ≡ 25) × IsLeft old new used

-- the same of an item that is there
abbrev pub WritesMessage : Option NavItem → List ℕ → List ℕ → ℕ → ℕ → Type 0
WritesMessage None old new used status = ⊥
WritesMessage (Some item) old new used status = WritesFrame item old new used status
