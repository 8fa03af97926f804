-- How the two branches of a run from a seed end: the capture is written, or counted. Private functions cite these.
use Rattle.std.specs.Prelude.{◌≡◌, ◌⊎◌, ℕ, List, length, Option, Some, Result, Ok, Err}
use Rattle.std.specs.Io.KnownBytes.{Appends}
use Rattle.nav_io.specs.Causes.{Rose}
use Rattle.nav_io.specs.Prefix.{AppendsPrefix}
use Rattle.one_run.specs.Causes.{Faults, HasItsCause}
use Rattle.one_run.specs.declared.fault.BridgeFault.{BridgeFault}
use Rattle.one_run.specs.declared.fault.BridgeFault.TheVariants.{ReadFault, WriteFault, ReportFault, TooLong, NoMemory, NotThisForm}
use Rattle.streams.specs.declared.target.Target.TheVariants.{Count}
use Rattle.captures.specs.declared.counts.CaptureCounts.{CaptureCounts}
use Rattle.captures.specs.Captures.{capture_of, counts_in, output_of, refusals_text, report_of_capture}
use Rattle.captures.specs.declared.seed_target.SeedCounts.{SeedCounts}
use Rattle.captures.specs.declared.seed_target.SeedCounts.TheVariants.{Written, Counted}

-- the error count of the output or report that failed rose, and no other; the input, its form and
-- its length are never the cause
abbrev pub IsSeedFault : Faults → Faults → BridgeFault → Type 0
IsSeedFault before now ReadFault = ⊥
IsSeedFault before now WriteFault = HasItsCause {T = Unit {0}} before now (Err WriteFault)
IsSeedFault before now ReportFault = HasItsCause {T = Unit {0}} before now (Err ReportFault)
IsSeedFault before now NotThisForm = ⊥
IsSeedFault before now TooLong = ⊥
IsSeedFault before now NoMemory = HasItsCause {T = Unit {0}} before now (Err NoMemory)

-- the text was written, or a prefix of it
abbrev pub WritesText : List ℕ → Option (List ℕ) → Option (List ℕ) → Faults → Faults → Result SeedCounts BridgeFault → Type 0
WritesText text written written_new before now (Ok counts) =
    Appends written written_new text × (counts ≡ Written (length text)) × (now ≡ before)
WritesText text written written_new before now (Err WriteFault) =
    AppendsPrefix written written_new text × Rose before.output now.output
WritesText text written written_new before now (Err fault) = ⊥

-- the capture was counted, and its counts written and reported
pub record CountDone (r : ℕ) (text : List ℕ) (written written_new reported reported_new : Option (List ℕ)) (before now : Faults) (counts : SeedCounts) : Type 0 where
  pub wrote : Appends written written_new (output_of Count (Some r) text)
  pub told : Appends reported reported_new (report_of_capture (Some r) text)
  pub of : CaptureCounts
  pub of_is : counts_in (capture_of (Some r) text) ≡ Some of
  pub counted : counts ≡ Counted of
  pub quiet : now ≡ before

-- prefixes of what the text gives were written and reported
abbrev pub CountBroke : ℕ → List ℕ → Option (List ℕ) → Option (List ℕ) → Option (List ℕ) → Option (List ℕ) → Type 0
CountBroke r text written written_new reported reported_new =
    AppendsPrefix written written_new (output_of Count (Some r) text) × AppendsPrefix reported reported_new (report_of_capture (Some r) text)

-- how counting the capture of a text ends
abbrev pub CountsText : ℕ → List ℕ → Option (List ℕ) → Option (List ℕ) → Option (List ℕ) → Option (List ℕ) → Faults → Faults → Result SeedCounts BridgeFault → Type 0
CountsText r text written written_new reported reported_new before now (Ok counts) =
    CountDone r text written written_new reported reported_new before now counts
CountsText r text written written_new reported reported_new before now (Err fault) =
    CountBroke r text written written_new reported reported_new × IsSeedFault before now fault
    × (AppendsPrefix reported reported_new (refusals_text (capture_of (Some r) text))
    ⊎ ((fault ≡ ReportFault) × Appends written written_new (output_of Count (Some r) text)))
