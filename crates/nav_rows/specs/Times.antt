-- The times in the numbers of a message.
use Rattle.std.specs.Prelude.{ℕ, ◌+◌, ◌-◌, ◌*◌, ◌%◌, ◌^◌, ◌<◌, ◌≤◌, List, length, ℤ, pos, ◌≤ℤ◌}
use Rattle.std.specs.Prelude.{unsigned_abs, IsTrue, Option, Some, None}
use Rattle.nav_eph.specs.Functions.{moment_near}
use Rattle.nav_tables.specs.Links.{nth}
use Rattle.nav_tables.specs.declared.times.FrameTime.{FrameTime}
use Rattle.nav_tables.specs.declared.times.Times.{Times}
use Rattle.nav_tables.specs.Times.{times_to, IsFrameTime}
use Rattle.nav_tables.specs.Weeks.{week_to}
use Rattle.nav_rows.specs.declared.kind.WeekClock.{WeekClock}
use Rattle.nav_rows.specs.declared.kind.Clock.{Clock}
use Rattle.nav_rows.specs.declared.kind.Clock.TheVariants.{Frame, Weeks, Daily}
use Rattle.nav_rows.specs.declared.times.RowTimes.{RowTimes}
use Rattle.nav_rows.specs.Kinds.{is_week_clock, week_low, week_high}

-- number k, which is not negative
abbrev pub number : List ℤ → ℕ → ℕ
number numbers k = unsigned_abs (nth numbers k)

-- the time that the numbers of a frame tell
abbrev pub frame_of : List ℤ → FrameTime
frame_of numbers = record {
  additional = number numbers 32;
  period = number numbers 35;
  day = number numbers 30;
  hour = number numbers 6;
  minute = number numbers 7;
  half = number numbers 8;
  quarter = number numbers 11;
}

abbrev pub framed : Option Times → Option RowTimes
framed None = None
framed (Some t) = Some (record { epoch = t.epoch; week = 0; sent = t.frame % 604800 })

-- the epoch is nearest to toe, in the week w
abbrev pub times_in_week : WeekClock → ℕ → ℕ → ℕ → RowTimes
times_in_week c w toe toc = record {
  epoch = moment_near (604800 * w + c.step * toe) (c.step * toc);
  week = w - c.zero;
  sent = 0;
}

abbrev pub weekly : WeekClock → List ℤ → ℕ → RowTimes
weekly c numbers r = times_in_week c (week_to c.rule r (number numbers c.week))
    (number numbers c.toe) (number numbers c.toc)

-- the times of a message near reference week r
abbrev pub times_stated : Clock → List ℤ → ℕ → Option RowTimes
times_stated Frame numbers r = framed (times_to (frame_of numbers) r)
times_stated (Weeks c) numbers r = Some (weekly c numbers r)
times_stated (Daily step) numbers r = None

-- the ranges of what records tell of these times
pub record IsGiven (clock : Clock) (t : RowTimes) : Type 0 where
  pub from : week_low clock ≤ t.week
  pub to : t.week ≤ week_high clock
  pub sent : t.sent ≤ 604799

-- ---- what is known of the numbers of a message

-- number k is there, and not negative
pub record IsNumber (zs : List ℤ) (k : ℕ) : Type 0 where
  pub inside : k < length zs
  pub from : pos 0 ≤ℤ nth zs k
  pub to : nth zs k ≤ℤ pos 604799

pub record IsSatellite (zs : List ℤ) : Type 0 where
  pub number : IsNumber zs 1
  pub to : nth zs 1 ≤ℤ pos 99

-- the numbers of a frame's time are there, and in range
pub record HasFrame (zs : List ℤ) : Type 0 where
  pub additional : IsNumber zs 32
  pub period : IsNumber zs 35
  pub day : IsNumber zs 30
  pub hour : IsNumber zs 6
  pub minute : IsNumber zs 7
  pub half : IsNumber zs 8
  pub quarter : IsNumber zs 11
  pub range : IsFrameTime (frame_of zs)

-- week number and times of week are there, and in range
pub record HasWeek (c : WeekClock) (zs : List ℤ) : Type 0 where
  pub week : IsNumber zs c.week
  pub toe : IsNumber zs c.toe
  pub toc : IsNumber zs c.toc
  pub week_to : number zs c.week < 2 ^ c.rule.bits
  pub toe_to : c.step * number zs c.toe < 604800
  pub toc_to : c.step * number zs c.toc < 604800

abbrev pub HasTimes : Clock → List ℤ → Type 0
HasTimes Frame zs = HasFrame zs
HasTimes (Weeks c) zs = (IsTrue (is_week_clock c)) × HasWeek c zs
HasTimes (Daily step) zs = Unit {0}
