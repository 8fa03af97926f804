-- The messages of rows.
use Rattle.std.specs.Prelude.{◌≡◌, ℕ, false, ◌+◌, ◌*◌, ◌/◌, ◌%◌, ◌^◌, ◌<◌, ◌≤◌, ◌&&◌, not, Bool}
use Rattle.std.specs.Prelude.{List, [], ◌∷◌}
use Rattle.std.specs.Prelude.{length, ℤ, pos, nat_eq, nat_le, nat_lt, Option, Some, None}
use Rattle.std.specs.Prelude.{Result, Ok, Err, if◌then◌else◌}
use Rattle.nav_eph.specs.Functions.{moment_near}
use Rattle.nav_tables.specs.Messages.{first_outside, message_bytes, starts}
use Rattle.nav_tables.specs.declared.link.Part.{Part}
use Rattle.nav_tables.specs.Links.{AreStated, filled, nth, say}
use Rattle.nav_tables.specs.declared.times.FrameTime.{FrameTime}
use Rattle.nav_tables.specs.declared.times.TimeFault.{TimeFault}
use Rattle.nav_tables.specs.declared.times.TimeFault.TheVariants as frames
use Rattle.nav_tables.specs.Times.{frame_in}
use Rattle.nav_tables.specs.Days.{distance}
use Rattle.nav_tables.specs.Weeks.{first_week, number_of_week}
use Rattle.rinex_write.specs.declared.columns.Column.{Column}
use Rattle.rinex_write.specs.Columns.{is_unknown}
use Rattle.rinex_read.specs.declared.reason.RecordFault.{RecordFault}
use Rattle.rinex_read.specs.declared.reason.RecordFault.TheVariants as reasons
use Rattle.rinex_read.specs.Judging.{is_named_week}
use Rattle.nav_rows.specs.declared.kind.WeekClock.{WeekClock}
use Rattle.nav_rows.specs.declared.kind.Clock.{Clock}
use Rattle.nav_rows.specs.declared.kind.Clock.TheVariants.{Frame, Weeks, Daily}
use Rattle.nav_rows.specs.declared.kind.Kind.{Kind}
use Rattle.nav_rows.specs.declared.encode.EncodeFault.{EncodeFault}
use Rattle.nav_rows.specs.declared.encode.EncodeFault.TheVariants as faults
use Rattle.nav_rows.specs.declared.times.RowTimes.{RowTimes}
use Rattle.nav_rows.specs.Kinds.{all_links, has_weeks, head_links}
use Rattle.nav_rows.specs.Times.{number}
use Rattle.nav_rows.specs.Rows.{RowValue, given_of, has_spare_sisa}

-- the week of toe in column 21, counted from 1980-01-06, and toe by it and column 11
abbrev pub toe_week : WeekClock → List ℤ → ℕ
toe_week c columns = number columns 21 + c.zero

abbrev pub toe_at : WeekClock → List ℤ → ℕ
toe_at c columns = 604800 * toe_week c columns + c.step * number columns 11

-- the epoch is within half a week of toe
abbrev pub is_near_toe : ℕ → ℕ → Bool
is_near_toe m toe = nat_lt toe (m + 302400) && nat_le m (toe + 302400)

-- the first reason why an epoch is none of its kind: the week of toe is not 1 to 16382, the epoch
-- is not a multiple of toc's unit, of that of t0 or, of frames, of a quarter of an hour, or it is
-- not near toe
abbrev pub epoch_fault : Clock → ℕ → List ℤ → Option RecordFault
epoch_fault Frame m columns = if nat_eq (m % 900) 0 then None else Some reasons.EpochStep
epoch_fault (Weeks c) m columns =
    if not (nat_le 1 (toe_week c columns)
    && nat_le (toe_week c columns) 16382) then Some reasons.Week
    else if not (nat_eq (m % 604800 % c.step) 0) then Some reasons.EpochStep
    else if not (is_near_toe m (toe_at c columns)) then Some reasons.EpochFar
    else None
epoch_fault (Daily step) m columns = if nat_eq (m % 604800 % step) 0 then None else Some reasons.EpochStep

-- the time of a frame with this epoch, sent at this time of week nearest to it
abbrev pub frame_stated : ℕ → ℕ → Result FrameTime TimeFault
frame_stated m sent =
    if not (nat_lt sent 604800) then Err frames.Sent
    else if not (is_named_week m) then Err frames.Day
    else frame_in (record { epoch = m; frame = moment_near m sent })

-- the numbers of the fields with the satellite and the times
abbrev pub frame_head : ℕ → Result FrameTime TimeFault → Result (List ℤ) EncodeFault
frame_head satellite (Err fault) = Err (faults.Frame fault)
frame_head satellite (Ok t) =
    Ok (pos satellite ∷ pos t.additional ∷ pos t.period ∷ pos t.day ∷ pos t.hour ∷ pos t.minute
    ∷ pos t.half ∷ pos t.quarter ∷ [])

abbrev pub week_head : WeekClock → RowValue → List ℤ
week_head c row =
    pos row.number ∷ pos (number_of_week c.rule (toe_week c row.columns))
    ∷ pos (row.moment % 604800 / c.step) ∷ []

abbrev pub head_of : Clock → RowValue → Result (List ℤ) EncodeFault
head_of Frame row = frame_head row.number (frame_stated row.moment (number row.columns 2))
head_of (Weeks c) row = Ok (week_head c row)
head_of (Daily step) row = Err faults.NoMessage

abbrev pub with_head : List Part → Clock → Result (List ℤ) EncodeFault → List ℤ
    → Result (List ℤ) EncodeFault
with_head parts clock (Err fault) numbers = Err fault
with_head parts clock (Ok head) numbers = Ok (filled parts (head_links clock) head numbers)

-- the numbers with those of the satellite and the times
abbrev pub with_head_of : List Part → Clock → RowValue → List ℤ → Result (List ℤ) EncodeFault
with_head_of parts clock row numbers = with_head parts clock (head_of clock row) numbers

-- the numbers if each is in range, and the SISA index is none of 126 to 254
abbrev pub judged_numbers : Kind → List ℤ → Option ℕ → Result (List ℤ) EncodeFault
judged_numbers k numbers (Some field) = Err (faults.OutOfRange field)
judged_numbers k numbers None
    = if has_spare_sisa k.sisa numbers then Err faults.SpareSisa else Ok numbers

abbrev pub judged_row : Kind → Result (List ℤ) EncodeFault → Result (List ℤ) EncodeFault
judged_row k (Err fault) = Err fault
judged_row k (Ok numbers) = judged_numbers k numbers (first_outside 0 k.table.fields.now numbers)

-- the columns, with 0 for a number that is not known
unfoldable pub known : List Column → List ℤ → List ℤ
known [] zs = []
known (c ∷ cs) [] = []
known (c ∷ cs) (z ∷ zs) = (if is_unknown c.rule z then pos 0 else z) ∷ known cs zs

abbrev pub known_in : Kind → RowValue → List ℤ
known_in k row = known k.layout.columns.now row.columns

-- what the columns say of the numbers, 0 where it is not known; the others are constants or 0
abbrev pub stated_numbers : Kind → RowValue → List ℤ
stated_numbers k row = filled k.parts.now k.links.now (known_in k row) (starts k.table.fields.now)

abbrev pub numbers_after : Kind → RowValue → Option RecordFault → Result (List ℤ) EncodeFault
numbers_after k row (Some reason) = Err (faults.Epoch reason)
numbers_after k row None = judged_row k (with_head_of k.parts.now k.clock row (stated_numbers k row))

-- the numbers of the message of a row, or the first error
unfoldable pub numbers_in : Kind → RowValue → Result (List ℤ) EncodeFault
numbers_in k row = numbers_after k row (epoch_fault k.clock row.moment row.columns)

abbrev pub bytes_by : Kind → Result (List ℤ) EncodeFault → Result (List ℕ) EncodeFault
bytes_by k (Err fault) = Err fault
bytes_by k (Ok numbers) = Ok (message_bytes k.table numbers)

-- the bytes of the message of a row, or the first error
abbrev pub message_of : Kind → RowValue → Result (List ℕ) EncodeFault
message_of k row = bytes_by k (numbers_in k row)

-- ---- rows and messages that come back

-- the times that a row's record tells
abbrev pub stated_times : Clock → RowValue → RowTimes
stated_times clock row = record {
  epoch = row.moment;
  week = if has_weeks clock then number row.columns 21 else 0;
  sent = if has_weeks clock then 0 else number row.columns 2;
}

-- the columns are those of a message: a time of transmission is not known, spare columns are as
-- they are written, and other numbers are known
abbrev pub IsOfMessage : Kind → RowValue → Type 0
IsOfMessage k row =
    AreStated k.parts.now k.links.now (given_of (stated_times k.clock row)) row.columns
    × (known_in k row ≡ row.columns)

-- the reference week is one near which the message has the times of the row
abbrev pub IsNearRow : Clock → RowValue → ℕ → Type 0
IsNearRow Frame row r =
    distance (7 * r + 3) ((moment_near row.moment (number row.columns 2) + 10800) / 86400) ≤ 729
IsNearRow (Weeks c) row r =
    (first_week c.rule r ≤ toe_week c row.columns)
    × (toe_week c row.columns < first_week c.rule r + 2 ^ c.rule.bits)
IsNearRow (Daily step) row r = Unit {0}

-- what no column says is as messages of rows have it: constants, and 0
abbrev pub AreUnstated : Kind → List ℤ → Type 0
AreUnstated k numbers =
    (j : ℕ) → say k.parts.now (all_links k.clock k.links.now) j ≡ false
    → nth (starts k.table.fields.now) j ≡ nth numbers j

-- ---- what is known of the columns of a row

-- the columns with the times are there, of at most 33 bits
pub record HasToe (c : WeekClock) (columns : List ℤ) : Type 0 where
  pub inside : 21 < length columns
  pub toe : number columns 11 < 2 ^ 33
  pub week : number columns 21 < 2 ^ 33
  pub some : 1 ≤ c.step
  pub most : c.step ≤ 604800
  pub zero : c.zero ≤ 7000

-- the flags of a frame are there, of at most 33 bits
pub record HasFlags (columns : List ℤ) : Type 0 where
  pub inside : 18 < length columns
  pub status : number columns 15 < 2 ^ 33
  pub health : number columns 18 < 2 ^ 33

abbrev pub HasClock : Clock → List ℤ → Type 0
HasClock Frame columns = HasFlags columns
HasClock (Weeks c) columns = HasToe c columns
HasClock (Daily step) columns = 0 < step
