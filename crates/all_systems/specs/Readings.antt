-- The messages of all systems in a stream: what a frame gives, and what is reported of it.
use Rattle.std.specs.Prelude.{ℕ, ◌+◌, ◌==◌, ◌||◌, Bool, false, List, [], ◌∷◌, ◌++◌, codes, decimal, length, map, nat_eq, nat_le, nat_lt, if◌then◌else◌, Option, None, Some, Result, Ok, Err, ◌⊎◌}
use Rattle.std.proofs.Common.{inl, inr}
use Rattle.nav_bits.specs.Bits.{number_at}
use Rattle.nav_eph.specs.declared.items.NavItem.{NavItem}
use Rattle.nav_rows.specs.declared.kind.Clock.{Clock}
use Rattle.nav_rows.specs.declared.kind.Clock.TheVariants.{Frame, Weeks, Daily}
use Rattle.nav_rows.specs.declared.kind.Kind.{Kind}
use Rattle.nav_rows.specs.declared.row.RowFault.{RowFault}
use Rattle.nav_rows.specs.declared.row.RowFault.TheVariants.{Message, SpareSisa as RowSisa, Day}
use Rattle.nav_rows.specs.Order.{KindRow}
use Rattle.nav_rows.specs.Rows.{RowValue, row_in}
use Rattle.nav_tables.specs.declared.message.TableFault.TheVariants.{Short as TableShort, OutOfRange}
use Rattle.one_run.specs.Reports.{report_line}
use Rattle.rtcm_eph.specs.Reading.{item_in}
use Rattle.rtcm_eph.specs.declared.fault.MessageFault.{MessageFault}
use Rattle.rtcm_eph.specs.declared.fault.MessageFault.TheVariants.{NoNumber, OtherMessage, Short, BadSat, BadTime, SpareSisa}
use Rattle.framing.specs.State.{payload_of}
use Rattle.all_systems.specs.declared.kinds.Kinds.{Kinds}

-- an item of a stream: an ephemeris of GPS or of Galileo I/NAV, or one of a further kind
abbrev pub Item : Type 0
Item = NavItem ⊎ KindRow

-- why a frame gives no item: none is in it, or its message, of this number, is rejected for a reason
abbrev pub Fault : Type 0
Fault = Option (ℕ × List ℕ)

-- the reading of a frame
abbrev pub Reading : Type 0
Reading = Result Item Fault

-- satellites 1 to 5 and 59 to 63 of BeiDou are geostationary, and send D2 (BDS-SIS-ICD-B1I-3.0)
abbrev pub beidou_kind : Kinds → ℕ → Kind
beidou_kind ks s = if nat_le s 5 || nat_le 59 s then ks.d2 else ks.d1

-- the kind of the messages of a number, for a satellite
abbrev pub kind_at : Kinds → ℕ → ℕ → Option Kind
kind_at ks n s =
    if n == 1020 then Some ks.fdma
    else if n == 1041 then Some ks.navic
    else if n == 1042 then Some (beidou_kind ks s)
    else if n == 1044 then Some ks.qzss
    else if n == 1045 then Some ks.fnav
    else None

-- the six bits behind the message number
abbrev pub satellite_in : List ℕ → ℕ
satellite_in payload = if nat_lt (length payload) 3 then 0 else number_at payload 12 6

-- the fields with the times: of a frame its hour, minute, half minute and quarter, else toe and toc
abbrev pub is_time : Clock → ℕ → Bool
is_time Frame f = nat_eq f 6 || (nat_eq f 7 || (nat_eq f 8 || nat_eq f 11))
is_time (Weeks c) f = nat_eq f c.toe || nat_eq f c.toc
is_time (Daily step) f = nat_eq f 3

-- the field with the number of the day
abbrev pub is_day : Clock → ℕ → Bool
is_day Frame f = nat_eq f 30
is_day (Weeks c) f = false
is_day (Daily step) f = false

-- why a number is out of its range, in one word
abbrev pub range_reason : Clock → ℕ → List ℕ
range_reason clock f =
    if nat_eq f 1 then codes "satellite"
    else if is_time clock f then codes "time"
    else if is_day clock f then codes "day"
    else codes "range"

-- why a message of a kind is rejected, in one word
abbrev pub row_reason : Clock → RowFault → List ℕ
row_reason clock (Message TableShort) = codes "short"
row_reason clock (Message (OutOfRange f)) = range_reason clock f
row_reason clock RowSisa = codes "sisa"
row_reason clock Day = codes "day"

abbrev pub row_reading : Kind → ℕ → Result RowValue RowFault → Reading
row_reading k n (Ok row) = Ok (inr (record { kind = k; row = row }))
row_reading k n (Err fault) = Err (Some (n, row_reason k.clock fault))

-- the reading of a message that is neither 1019 nor 1046
abbrev pub kind_reading : Option Kind → ℕ → List ℕ → ℕ → Reading
kind_reading None n payload r = Err None
kind_reading (Some k) n payload r = row_reading k n (row_in k payload r)

-- the message number
abbrev pub message_in : List ℕ → ℕ
message_in payload = if nat_lt (length payload) 2 then 0 else number_at payload 0 12

-- a rejected message 1019 or 1046
abbrev pub rejected : List ℕ → List ℕ → Reading
rejected payload reason = Err (Some (message_in payload, reason))

-- the reading of a payload, by that as message 1019 or 1046
abbrev pub reading_by : Kinds → ℕ → List ℕ → Result NavItem MessageFault → Reading
reading_by ks r payload (Ok item) = Ok (inl item)
reading_by ks r payload (Err NoNumber) = Err None
reading_by ks r payload (Err (OtherMessage n)) = kind_reading (kind_at ks n (satellite_in payload)) n payload r
reading_by ks r payload (Err Short) = rejected payload (codes "short")
reading_by ks r payload (Err BadSat) = rejected payload (codes "satellite")
reading_by ks r payload (Err BadTime) = rejected payload (codes "time")
reading_by ks r payload (Err SpareSisa) = rejected payload (codes "sisa")

-- the reading of a payload for the reference week r
abbrev pub reading_in : Kinds → ℕ → List ℕ → Reading
reading_in ks r payload = reading_by ks r payload (item_in r payload)

-- the readings of frames
abbrev pub readings : Kinds → ℕ → List (List ℕ) → List Reading
readings ks r frames = map (λ frame. reading_in ks r (payload_of frame)) frames

-- the report line of a frame with this number: the number of its message, and the reason
abbrev pub reading_report : ℕ → Reading → List ℕ
reading_report number (Ok item) = []
reading_report number (Err None) = []
reading_report number (Err (Some fault)) = report_line (codes "frame") number ((decimal fault.0 ++ codes " ") ++ fault.1)

-- the report lines of frames, the first of which has this number
abbrev pub readings_report : ℕ → List Reading → List ℕ
readings_report number [] = []
readings_report number (x ∷ xs) = reading_report number x ++ readings_report (number + 1) xs

-- 1 for a rejected frame, else 0
abbrev pub is_refused : Reading → ℕ
is_refused (Ok item) = 0
is_refused (Err None) = 0
is_refused (Err (Some fault)) = 1

-- 1 for a frame that gives nothing, else 0
abbrev pub is_unused : Reading → ℕ
is_unused (Ok item) = 0
is_unused (Err None) = 1
is_unused (Err (Some fault)) = 0
