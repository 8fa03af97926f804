-- What a task makes of the bytes that it reads, and what it counts of them.
use Rattle.std.specs.Prelude.{◌≤◌, ◌^◌, ℕ, List, length, Bool, true, Option, None, IsSome, option_map}
use Rattle.one_run.specs.declared.fault.BridgeFault.{BridgeFault}
use Rattle.one_run.specs.declared.fault.BridgeFault.TheVariants.{ReadFault, WriteFault, ReportFault, NotThisForm, TooLong, NoMemory}
use Rattle.whole_file.specs.Steps.{Cause}
use Rattle.whole_file.specs.Steps.Cause.{Read, Write, Other, NoCall}
use Rattle.one_run.specs.Ends.{giving}
use Rattle.one_run.specs.Runs.{Meaning}
use Rattle.all_systems.specs.Streams.{systems_meaning}
use Rattle.all_systems.specs.Files.{files_meaning}
use Rattle.all_systems.specs.Merging.{outlet_of, system_merge_meaning}
use Rattle.all_systems.specs.declared.counts.SystemCounts.{SystemCounts}
use Rattle.all_systems.specs.declared.merge_counts.SystemMergeCounts.{SystemMergeCounts}
use Rattle.all_systems.specs.declared.version.Version.TheVariants.{Four}
use Rattle.bridge_engine.specs.Meanings.{done_of, meaning_of}
use Rattle.file_conversion.specs.declared.done.Done.{Done}
use Rattle.file_conversion.specs.declared.done.Done.TheVariants as dones
use Rattle.file_conversion.specs.declared.table.SystemFileJob.{SystemFileJob}
use Rattle.file_conversion.specs.declared.table.SystemMergeJob.{SystemMergeJob}
use Rattle.file_conversion.specs.declared.table.SystemsJob.{SystemsJob}
use Rattle.file_conversion.specs.declared.table.Task.{Task}
use Rattle.file_conversion.specs.declared.table.Task.TheVariants.{Copied, Does, Systems, SystemFile, SystemMerge}

-- what the conversion of a stream of all systems makes of its bytes, and what it counts in them
abbrev pub systems_of : SystemsJob → Meaning Done
systems_of job = giving dones.Stream (systems_meaning job.kinds job.to job.week)

-- and that of a navigation file
abbrev pub system_file_of : SystemFileJob → Meaning SystemCounts
system_file_of job = files_meaning job.kinds job.version job.to

-- and that which merges several of RINEX 4
abbrev pub system_merge_of : SystemMergeJob → Meaning SystemMergeCounts
system_merge_of job = system_merge_meaning job.kinds Four (outlet_of job.to job.header)

-- it reads the bytes of a file
abbrev pub reads_input : Task → Bool
reads_input Copied = true
reads_input (Does job) = (meaning_of job).reads
reads_input (Systems job) = true
reads_input (SystemFile job) = true
reads_input (SystemMerge job) = true

-- the bytes themselves, or the output of the conversion
abbrev pub makes_by : Task → List ℕ → List ℕ
makes_by Copied bytes = bytes
makes_by (Does job) bytes = (meaning_of job).whole.output bytes
makes_by (Systems job) bytes = (systems_of job).whole.output bytes
makes_by (SystemFile job) bytes = (system_file_of job).whole.output bytes
makes_by (SystemMerge job) bytes = (system_merge_of job).whole.output bytes

-- nothing, or what the conversion counts
abbrev pub counts_by : Task → List ℕ → Option Done
counts_by Copied bytes = None
counts_by (Does job) bytes = option_map dones.Job ((done_of job).counts bytes)
counts_by (Systems job) bytes = (systems_of job).counts bytes
counts_by (SystemFile job) bytes = option_map dones.File ((system_file_of job).counts bytes)
counts_by (SystemMerge job) bytes = option_map dones.Merged ((system_merge_of job).counts bytes)

-- the task takes these bytes: the conversion counts them
abbrev pub accepts : Task → List ℕ → Type 0
accepts Copied bytes = Unit {0}
accepts (Does job) bytes = IsSome ((done_of job).counts bytes)
accepts (Systems job) bytes = IsSome ((systems_of job).counts bytes)
accepts (SystemFile job) bytes = IsSome ((system_file_of job).counts bytes)
accepts (SystemMerge job) bytes = IsSome ((system_merge_of job).counts bytes)

-- what failed in a run that ended with this error: the bytes and the memory are no call
abbrev pub cause_in : BridgeFault → Cause
cause_in ReadFault = Read
cause_in WriteFault = Write
cause_in ReportFault = Other
cause_in NotThisForm = NoCall
cause_in TooLong = NoCall
cause_in NoMemory = NoCall

-- the bytes of such a run, which are accepted or not: they are not, or they are too many
abbrev pub breaks_by : Type 0 → List ℕ → BridgeFault → Type 0
breaks_by Accepted bytes ReadFault = Unit {0}
breaks_by Accepted bytes WriteFault = Unit {0}
breaks_by Accepted bytes ReportFault = Unit {0}
breaks_by Accepted bytes NotThisForm = ¬ Accepted
breaks_by Accepted bytes TooLong = 2 ^ 32 ≤ length bytes
breaks_by Accepted bytes NoMemory = Unit {0}
