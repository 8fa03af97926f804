-- The content of SBF blocks.
use Rattle.std.specs.Prelude.{ℕ, ◌-◌, ◌%◌, ◌==◌, nat_lt, if◌then◌else◌, List}
use Rattle.std.specs.Prelude.{length, slice_index, Option, None}
use Rattle.nav_eph.specs.declared.sat.System.TheVariants.{Gps, Gal}
use Rattle.nav_eph.specs.declared.signal.Signal.{Signal}
use Rattle.nav_eph.specs.declared.signal.Signal.TheVariants.{E1b, E5b}
use Rattle.receiver_log.specs.Numbers.{two_at, four_at}
use Rattle.receiver_log.specs.Times.{time_in}
use Rattle.receiver_log.specs.Words.{words_at}
use Rattle.receiver_log.specs.Halves.{sbf_even, sbf_odd}
use Rattle.receiver_log.specs.Ubx.{satellite_of, subframe_with, page_with}
use Rattle.receiver_log.specs.declared.content.LogContent.TheVariants.{Refused}
use Rattle.receiver_log.specs.declared.content.LogReason.TheVariants.{Length}
use Rattle.receiver_log.specs.declared.content.LogMessage.{LogMessage}
use Rattle.receiver_log.specs.declared.content.LogMessage.TheVariants.{Other, Dated}

-- the time tag of a block: TOW in milliseconds at offset 8, WNc at 12
abbrev pub time_at : List ℕ → Option ℕ
time_at block = time_in (two_at block 12) (four_at block 8)

-- GPSRawCA (4017): satellite number at offset 14, ten words from 20
unfoldable pub subframe_content : List ℕ → LogMessage
subframe_content block =
    if nat_lt (length block) 60 then Dated None (Refused Length)
    else Dated (time_at block) (subframe_with (satellite_of Gps (slice_index block 14))
    (words_at block 20))

-- a page on a signal: satellite number (from 71) at offset 14, eight words from 20
abbrev pub page_content : Signal → List ℕ → LogMessage
page_content signal block =
    Dated (time_at block) (page_with (satellite_of Gal (slice_index block 14 - 70)) signal
    (sbf_even block 20) (sbf_odd block 20))

-- GALRawINAV (4023): signal type in the five low bits at offset 17: 17 is E1-B, 21 is E5b
unfoldable pub pages_content : List ℕ → LogMessage
pages_content block =
    if nat_lt (length block) 52 then Dated None (Refused Length)
    else if slice_index block 17 % 32 == 17 then page_content E1b block
    else if slice_index block 17 % 32 == 21 then page_content E5b block
    else Other

-- the content of a block with this ID
unfoldable pub block_content : ℕ → List ℕ → LogMessage
block_content number block =
    if number == 4017 then subframe_content block else if number == 4023 then pages_content block else
    Other

-- the content of a complete block; its ID is the lower 13 bits of the two bytes after the CRC
unfoldable pub sbf_message : List ℕ → LogMessage
sbf_message block = if nat_lt (length block) 8 then Other else block_content (two_at block 4 % 8192) block
