-- The times of GLONASS frames. Moscow time is UTC and three hours; both count days from 1980-01-06.
use Rattle.std.specs.Prelude.{◌≡◌, ℕ, ◌+◌, ◌-◌, ◌*◌, ◌/◌, ◌%◌, ◌≤◌, ◌&&◌, Bool, not, nat_eq, nat_le}
use Rattle.std.specs.Prelude.{nat_lt, if◌then◌else◌, Option, Some, None, Result, Ok, Err}
use Rattle.nav_eph.specs.Functions.{first_from}
use Rattle.nav_tables.specs.declared.times.FrameTime.{FrameTime}
use Rattle.nav_tables.specs.declared.times.Times.{Times}
use Rattle.nav_tables.specs.declared.times.TimeFault.{TimeFault}
use Rattle.nav_tables.specs.declared.times.TimeFault.TheVariants.{Epoch, Sent, Day}
use Rattle.nav_tables.specs.Days.{day_of_number, nearest_to, period_of, start}

-- the numbers of a message are in range
pub record IsFrameTime (t : FrameTime) : Type 0 where
  pub period : t.period ≤ 31
  pub hour : t.hour ≤ 23
  pub minute : t.minute ≤ 59
  pub half : t.half ≤ 1
  pub quarter : t.quarter ≤ 95

-- the time of day of the frame
abbrev pub time_of : FrameTime → ℕ
time_of t = 3600 * t.hour + 60 * t.minute + 30 * t.half

-- the day of the frame: that of its numbers, or without them the nearest to the middle of the
-- reference week
abbrev pub day_of : FrameTime → ℕ → Option ℕ
day_of t r = if nat_eq t.additional 1
    && nat_le 1 t.period then day_of_number t.period t.day else nearest_to (7 * r + 3) t.day 36

-- the time with the quarter of an hour nearest to Moscow time f, the later of two, in UTC
abbrev pub epoch_at : ℕ → ℕ → ℕ
epoch_at f quarter = first_from 86400 (f - 43199) (900 * quarter) - 10800

abbrev pub times_on : FrameTime → ℕ → Times
times_on t d = record {
  epoch = epoch_at (86400 * d + time_of t) t.quarter;
  frame = 86400 * d + time_of t - 10800;
}

abbrev pub times_by : FrameTime → Option ℕ → Option Times
times_by t None = None
times_by t (Some d) = Some (times_on t d)

-- the times of a frame near a reference week
abbrev pub times_to : FrameTime → ℕ → Option Times
times_to t r = times_by t (day_of t r)

-- the frame tells these times: its numbers are those of the day, and its times of day are the
-- right ones
pub record IsTimeOf (t : FrameTime) (times : Times) : Type 0 where
  pub range : IsFrameTime t
  pub some : 1 ≤ t.period
  pub day : day_of_number t.period t.day ≡ Some ((times.frame + 10800) / 86400)
  pub time : times_on t ((times.frame + 10800) / 86400) ≡ times

-- the frame is at a half minute, less than twelve hours from the epoch
abbrev pub is_sent : ℕ → ℕ → Bool
is_sent epoch frame = nat_eq (frame % 30) 0 && nat_lt frame (epoch + 43200)
    && nat_lt epoch (frame + 43200)

-- the day in Moscow is one of 1996 to 2119
abbrev pub has_day : ℕ → Bool
has_day frame = nat_le 504489600 frame && nat_lt frame 4417545600

-- the numbers of a frame without additional data, from Moscow times
abbrev pub frame_numbers : ℕ → ℕ → FrameTime
frame_numbers epoch frame = record {
  additional = 0;
  period = period_of (frame / 86400);
  day = frame / 86400 - start (period_of (frame / 86400)) + 1;
  hour = frame % 86400 / 3600;
  minute = frame % 86400 / 60 % 60;
  half = frame % 86400 / 30 % 2;
  quarter = epoch % 86400 / 900;
}

abbrev pub frame_by : ℕ → ℕ → Result FrameTime TimeFault
frame_by epoch frame =
    if not (nat_eq (epoch % 900) 0) then Err Epoch
    else if not (is_sent epoch frame) then Err Sent
    else if not (has_day frame) then Err Day
    else Ok (frame_numbers epoch frame)

-- the numbers of the frame of these times, without additional data, or the first error
unfoldable pub frame_in : Times → Result FrameTime TimeFault
frame_in times = frame_by (times.epoch + 10800) (times.frame + 10800)
