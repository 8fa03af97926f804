-- The content of UBX messages.
use Rattle.std.specs.Prelude.{ℕ, ◌+◌, ◌-◌, ◌*◌, ◌==◌, ◌&&◌, nat_lt, nat_le, if◌then◌else◌, List}
use Rattle.std.specs.Prelude.{length, take, drop, slice_index, Option, Some, None}
use Rattle.nav_eph.specs.Satellite.{Satellite, most}
use Rattle.nav_eph.specs.declared.sat.System.{System}
use Rattle.nav_eph.specs.declared.sat.System.TheVariants.{Gps, Gal}
use Rattle.nav_eph.specs.declared.signal.Signal.{Signal}
use Rattle.nav_eph.specs.declared.signal.Signal.TheVariants.{E1b, E5b}
use Rattle.receiver_log.specs.Times.{time_of_week, time_of_date, time_of_raw}
use Rattle.receiver_log.specs.Words.{words_at}
use Rattle.receiver_log.specs.Halves.{ubx_even, ubx_odd}
use Rattle.receiver_log.specs.declared.content.LogContent.{LogContent}
use Rattle.receiver_log.specs.declared.content.LogContent.TheVariants.{Refused, Subframe, Page}
use Rattle.receiver_log.specs.declared.content.LogReason.TheVariants.{Length}
use Rattle.receiver_log.specs.declared.content.LogReason.TheVariants.{Satellite as NoSatellite}
use Rattle.receiver_log.specs.declared.content.LogMessage.{LogMessage}
use Rattle.receiver_log.specs.declared.content.LogMessage.TheVariants.{Other, Time, Received}

-- the satellite of a system with this number
unfoldable pub satellite_of : System → ℕ → Option Satellite
satellite_of system number =
    if nat_le 1 number && nat_le number (most system) then Some
    (record { system = system; number = number }) else None

-- a subframe of the satellite
abbrev pub subframe_with : Option Satellite → List ℕ → LogContent
subframe_with (Some sat) words = Subframe sat words
subframe_with None words = Refused NoSatellite

-- a page of the satellite
abbrev pub page_with : Option Satellite → Signal → List ℕ → List ℕ → LogContent
page_with (Some sat) signal even odd = Page sat signal even odd
page_with None signal even odd = Refused NoSatellite

-- the payload: the bytes between the six header bytes and the two checksum bytes
abbrev pub payload_of : List ℕ → List ℕ
payload_of message = take (length message - 8) (drop 6 message)

-- RXM-SFRBX of GPS L1 C/A: ten words from offset 8
unfoldable pub gps_words : List ℕ → LogContent
gps_words payload =
    if slice_index payload 4 == 10 && length payload == 48
    then subframe_with (satellite_of Gps (slice_index payload 1))
    (words_at payload 8) else Refused Length

-- RXM-SFRBX of a signal with I/NAV: eight words or more from offset 8
unfoldable pub galileo_words : Signal → List ℕ → LogContent
galileo_words signal payload =
    if nat_le 8 (slice_index payload 4) && length payload == 8 + 4 * slice_index payload 4
    then page_with (satellite_of Gal (slice_index payload 1)) signal (ubx_even payload 8)
    (ubx_odd payload 8) else Refused Length

-- RXM-SFRBX: gnssId at offset 0, svId at 1, sigId at 2, number of words at 4
unfoldable pub words_content : List ℕ → LogMessage
words_content payload =
    if nat_lt (length payload) 8 then Received (Refused Length)
    else if slice_index payload 0 == 0 && slice_index payload 2 == 0 then Received (gps_words payload)
    else if slice_index payload 0 == 2
    && nat_le (slice_index payload 2) 1 then Received (galileo_words E1b payload)
    else if slice_index payload 0 == 2
    && slice_index payload 2 == 5 then Received (galileo_words E5b payload)
    else Other

-- the content of a payload by class and ID: NAV-TIMEGPS is 01 20, NAV-PVT 01 07, RXM-RAWX 02 15, RXM-SFRBX 02 13
unfoldable pub payload_content : ℕ → ℕ → List ℕ → LogMessage
payload_content class number payload =
    if class == 1 && number == 0x20 then Time (time_of_week payload)
    else if class == 1 && number == 7 then Time (time_of_date payload)
    else if class == 2 && number == 0x15 then Time (time_of_raw payload)
    else if class == 2 && number == 0x13 then words_content payload
    else Other

-- the content of a complete message
unfoldable pub ubx_message : List ℕ → LogMessage
ubx_message message =
    if nat_lt (length message) 8 then Other
    else payload_content (slice_index message 2) (slice_index message 3) (payload_of message)
