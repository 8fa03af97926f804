-- A file while it is read. Private functions cite these.
use Rattle.std.specs.Prelude.{◌≡◌, ◌+◌, ◌⊎◌, ℕ, List, Option, true}
use Rattle.rinex_read.specs.Forms.{Form}
use Rattle.nav_io.specs.declared.lines.LineFault.TheVariants as lines
use Rattle.rinex_read.specs.States.{AreEarly, RecordsState, HeaderSteps, BreaksRecord, BrokeBy, is_waiting}
use Rattle.rinex_read.specs.declared.judged.HeaderState.TheVariants.{NotRinexNav, OtherVersion}
use Rattle.rinex_read.specs.declared.judged.ItemRead.{ItemRead}
use Rattle.rinex_read.specs.declared.judged.ItemRead.TheVariants.{Item, Refused, PassedOver}
use Rattle.one_run.specs.declared.fault.BridgeFault.{BridgeFault}
use Rattle.one_run.specs.declared.fault.BridgeFault.TheVariants.{ReadFault, NotThisForm, TooLong}
use Rattle.streams.specs.Times.{with_item}
use Rattle.streams.specs.declared.times.Times.{Times}
use Rattle.nav_files.specs.declared.counts.RinexCounts.{RinexCounts}
use Rattle.nav_files.specs.Files.{is_refused_read, is_passed, is_item}

-- the times together with the epoch of the item of a record
abbrev pub read_times : Option Times → ItemRead → Option Times
read_times times (Item line item) = with_item times item
read_times times (Refused line reason) = times
read_times times (PassedOver line) = times

-- the counts with one record more
abbrev pub counted : RinexCounts → ItemRead → RinexCounts
counted c read = record {
  records = c.records + 1;
  refused = c.refused + is_refused_read read;
  passed = c.passed + is_passed read;
  items = c.items + is_item read;
  times = read_times c.times read;
}

-- every record counted is rejected, skipped or an item
abbrev pub AreCounted : RinexCounts → Type 0
AreCounted c = c.refused + c.passed + c.items ≡ c.records

-- the state of the header at an error
abbrev pub HeaderFaultOf : BridgeFault → RecordsState → Type 0
HeaderFaultOf ReadFault new = (is_waiting new.header ≡ true) × BrokeBy lines.ReadFault new
HeaderFaultOf TooLong new = (is_waiting new.header ≡ true) × BrokeBy lines.TooLong new
HeaderFaultOf NotThisForm new = (new.header ≡ NotRinexNav) ⊎ (new.header ≡ OtherVersion)
HeaderFaultOf _ new = ⊥

-- How the reader breaks off after the header.
abbrev pub BreaksRead : {R : Type 0} → Form R → Option (List ℕ) → Option (List ℕ) → RecordsState → RecordsState → BridgeFault → Type 0
BreaksRead f left left_new old new ReadFault = BreaksRecord f left left_new old new lines.ReadFault
BreaksRead f left left_new old new TooLong = BreaksRecord f left left_new old new lines.TooLong
BreaksRead f left left_new old new _ = ⊥

-- The header is rejected, whatever bytes follow, or the reader breaks off in it.
pub record NoHeader {R : Type 0} (f : Form R) (left left_new : Option (List ℕ)) (old new : RecordsState) (fault : BridgeFault) : Type 0 where
  pub steps : HeaderSteps f left left_new old new
  pub early : AreEarly old.lines steps.reads.taken steps.lines
  pub by : HeaderFaultOf fault new
