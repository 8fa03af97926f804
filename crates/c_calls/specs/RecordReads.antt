-- Records of navigation files, read into raw numbers.
use Rattle.std.specs.Prelude.{◌≡◌, ◌⊎◌, ℕ, ◌==◌, if◌then◌else◌, List}
use Rattle.rinex_read.specs.Lines.{lines_of}
use Rattle.rinex_read.specs.Forms.{rinex4}
use Rattle.rinex_read.specs.Form3.{rinex3}
use Rattle.rinex_read.specs.declared.judged.ItemRead.{ItemRead}
use Rattle.rinex_read.specs.declared.judged.ItemRead.TheVariants.{Item, Refused, PassedOver}
use Rattle.rinex_read.specs.declared.reason.RecordFault.{RecordFault}
use Rattle.rinex_read.specs.declared.reason.RecordFault.TheVariants.{BadSat, Short, NotANumber, Blank, OutOfRange, NoSuchDate, Week, Fit, EpochStep, EpochFar}
use Rattle.raw_values.specs.declared.item_raw.ItemRaw.{ItemRaw}
use Rattle.raw_values.specs.Items.{raw_item}

-- the versions of navigation files
abbrev pub IsVersion : ℕ → Type 0
IsVersion version = (version ≡ 3) ⊎ (version ≡ 4)

-- what the lines of a text give as one record of a file of that version
abbrev pub read_in : ℕ → List ℕ → ItemRead
read_in version text = if version == 4 then rinex4.judged 1 (lines_of text) else rinex3.judged 1 (lines_of text)

-- the number of a reason
abbrev pub reason_status : RecordFault → ℕ
reason_status BadSat = 32
reason_status Short = 33
reason_status NotANumber = 34
reason_status Blank = 35
reason_status OutOfRange = 36
reason_status NoSuchDate = 37
reason_status Week = 38
reason_status Fit = 39
reason_status EpochStep = 40
reason_status EpochFar = 41

-- the item of a record is put and the result is 0, or nothing is put and the result states why
abbrev pub PutsRead : ItemRead → ItemRaw → ItemRaw → ℕ → Type 0
PutsRead (Item line item) old new status = (status ≡ 0) × (new ≡ raw_item item old)
PutsRead (Refused line reason) old new status = (status ≡ reason_status reason) × (new ≡ old)
PutsRead (PassedOver line) old new status = (status ≡ 42) × (new ≡ old)
