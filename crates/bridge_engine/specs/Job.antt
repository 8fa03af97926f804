-- The conversion that a command line asks for: the table of conversions.
use Rattle.std.specs.Prelude.{◌≡◌, ◌≤◌, ◌^◌, ◌<◌, ℕ, List, codes, take, drop, length, slice_index, IsTrue, Option, None, Some}
use Rattle.std.specs.Str.Parse.{digits_value}
use Rattle.std.specs.Char.{is_ascii_digit}
use Rattle.std.specs.List.{list_all}
use Rattle.nav_eph.specs.Weeks.{IsReference}
use Rattle.sent_captures.specs.Sats.{IsSats}
use Rattle.rinex_write.specs.declared.words.HeaderWords.{HeaderWords}
use Rattle.captures.specs.declared.target.CaptureTo.{CaptureTo}
use Rattle.captures.specs.declared.target.CaptureTo.TheVariants as captures
use Rattle.streams.specs.declared.stream_target.StreamTo.{StreamTo}
use Rattle.streams.specs.declared.stream_target.StreamTo.TheVariants as streams
use Rattle.nav_files.specs.declared.target.RinexTo.{RinexTo}
use Rattle.nav_files.specs.declared.target.RinexTo.TheVariants as files
use Rattle.captures.specs.declared.seed_target.SeedTo.{SeedTo}
use Rattle.captures.specs.declared.seed_target.SeedTo.TheVariants as seeds
use Rattle.bridge_engine.specs.declared.job.Job.{Job}
use Rattle.bridge_engine.specs.declared.job.SeedJob.{SeedJob}
use Rattle.bridge_engine.specs.declared.job.Job.TheVariants.{StreamToFrames, Capture, Stream, Rinex, Rinex3, SendRinex, SendRinex3, Merge, Cover, Seed}
use Rattle.bridge_engine.specs.declared.values.OptionValues.{OptionValues}
use Rattle.bridge_engine.specs.Options.{OptionsGiven, GiveValues}

-- the text is the number in one to ten decimal digits
pub record Writes (text : List ℕ) (number : ℕ) : Type 0 where
  pub some : 1 ≤ length text
  pub few : length text ≤ 10
  pub digits : IsTrue (list_all is_ascii_digit text)
  pub value : digits_value 10 text ≡ number

-- a `--week` value: a valid reference week
abbrev pub IsWeekText : List ℕ → ℕ → Type 0
IsWeekText text week = Writes text week × IsReference week

-- a `--leap` value: leap seconds, at most 99
abbrev pub IsLeapText : List ℕ → ℕ → Type 0
IsLeapText text leap = Writes text leap × (leap ≤ 99)

-- a `--date` value, as in a RINEX header: eight digits, a space, six digits and ` UTC`
pub record IsDateText (text date : List ℕ) : Type 0 where
  pub same : date ≡ text
  pub size : length text ≡ 19
  pub day : IsTrue (list_all is_ascii_digit (take 8 text))
  pub space : slice_index text 8 ≡ 32
  pub time : IsTrue (list_all is_ascii_digit (take 6 (drop 9 text)))
  pub zone : drop 15 text ≡ codes " UTC"

-- a `--seed` value: a number of 32 bits
abbrev pub IsSeedText : List ℕ → ℕ → Type 0
IsSeedText text seed = Writes text seed × (seed < 2 ^ 32)

-- a `--sats` value: 1 to 32 satellites
abbrev pub IsSatsText : List ℕ → ℕ → Type 0
IsSatsText text sats = Writes text sats × IsSats sats

-- the option is present and its text writes this value, or both are absent
abbrev pub Reads : {A : Type 0} → (List ℕ → A → Type 0) → Option (List ℕ) → Option A → Type 0
Reads kind None None = Unit {0}
Reads kind None (Some value) = ⊥
Reads kind (Some text) None = ⊥
Reads kind (Some text) (Some value) = kind text value

-- the options other than `--from` and `--to` have these values, each in its range
pub record ReadsAs (given : OptionsGiven) (values : OptionValues) : Type 0 where
  pub week : Reads IsWeekText given.week values.week
  pub leap : Reads IsLeapText given.leap values.leap
  pub date : Reads IsDateText given.date values.date
  pub seed : Reads IsSeedText given.seed values.seed
  pub sats : Reads IsSatsText given.sats values.sats

-- a row of the table of conversions: the values of `--from` and `--to`, and the other options.
-- `Some` is an option that the conversion requires and `None` one that it excludes; a variable of
-- type `Option` is an option that it may have.
pub record Row : Type 0 where
  pub from : List ℕ
  pub to : List ℕ
  pub values : OptionValues

-- what is written: the value of `--to`, and the leap seconds and date of the RINEX header, if it
-- has one
pub record Target : Type 0 where
  pub word : List ℕ
  pub leap : Option ℕ
  pub date : Option (List ℕ)

-- a target without a header
abbrev pub plain : List ℕ → Target
plain word = record { word = word; leap = None; date = None }

-- a target with a RINEX header
abbrev pub headed : List ℕ → HeaderWords → Target
headed word words = record { word = word; leap = Some words.leap; date = Some words.date }

-- the row with this `--from` word, target and week
abbrev pub row : List ℕ → Target → Option ℕ → Row
row from target week = record {
  from = from;
  to = target.word;
  values = record { week = week; leap = target.leap; date = target.date; seed = None; sats = None };
}

-- the targets of `--from capture`
abbrev pub capture_target : CaptureTo → Target
capture_target (captures.Rinex words) = headed (codes "rinex") words
capture_target (captures.Rinex3 words) = headed (codes "rinex3") words
capture_target captures.Rtcm = plain (codes "rtcm")
capture_target captures.ToList = plain (codes "list")
capture_target captures.Count = plain (codes "count")

-- the targets of `--from stream`, which reads the ephemerides of the stream
abbrev pub stream_target : StreamTo → Target
stream_target (streams.Rinex words) = headed (codes "rinex") words
stream_target (streams.Rinex3 words) = headed (codes "rinex3") words
stream_target streams.Rtcm = plain (codes "rtcm")

-- the targets of `--from rinex` and `--from rinex3` that convert one navigation file
abbrev pub file_target : RinexTo → Target
file_target (files.Rinex words) = headed (codes "rinex") words
file_target (files.Rinex3 words) = headed (codes "rinex3") words
file_target files.Rtcm = plain (codes "rtcm")
file_target files.ToList = plain (codes "list")

-- the `--to` word for a generated capture: the capture itself or its counts
abbrev pub seed_word : SeedTo → List ℕ
seed_word seeds.Capture = codes "capture"
seed_word seeds.Count = codes "count"

-- the row of a generated capture: its seed, number of satellites and week
abbrev pub seed_row : SeedJob → Row
seed_row job = record {
  from = codes "seed";
  to = seed_word job.to;
  values = record { week = Some job.week; leap = None; date = None; seed = Some job.seed; sats = Some job.sats };
}

-- the table of conversions: a week is optional for a capture, and required for ephemerides of a
-- stream, a file sent and a seed
abbrev pub row_of : Job → Row
row_of StreamToFrames = row (codes "stream") (plain (codes "frames")) None
row_of (Capture job) = row (codes "capture") (capture_target job.to) job.week
row_of (Stream job) = row (codes "stream") (stream_target job.to) (Some job.week)
row_of (Rinex to) = row (codes "rinex") (file_target to) None
row_of (Rinex3 to) = row (codes "rinex3") (file_target to) None
row_of (SendRinex week) = row (codes "rinex") (plain (codes "capture")) (Some week)
row_of (SendRinex3 week) = row (codes "rinex3") (plain (codes "capture")) (Some week)
row_of (Merge words) = row (codes "rinex") (headed (codes "merged") words) None
row_of Cover = row (codes "rinex") (plain (codes "cover")) None
row_of (Seed job) = seed_row job

-- the options are exactly those of the conversion's row, with its values
pub record Asks (given : OptionsGiven) (job : Job) : Type 0 where
  pub from : given.from ≡ Some (row_of job).from
  pub to : given.to ≡ Some (row_of job).to
  pub values : ReadsAs given (row_of job).values

-- the arguments name this conversion
pub record IsJob (words : List (List ℕ)) (job : Job) : Type 0 where
  pub given : OptionsGiven
  pub options : GiveValues words given
  pub asks : Asks given job

-- the arguments name some conversion
abbrev pub GivesJob : List (List ℕ) → Type 0
GivesJob words = (job : Job) × IsJob words job
