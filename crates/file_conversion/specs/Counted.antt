-- The times of what a conversion has counted.
use Rattle.std.specs.Prelude.{Option}
use Rattle.bridge_engine.specs.Counts.{times_in as times_of_job}
use Rattle.streams.specs.declared.times.Times.{Times}
use Rattle.file_conversion.specs.declared.done.Done.{Done}
use Rattle.file_conversion.specs.declared.done.Done.TheVariants.{Job, Stream, File, Merged}

-- the first and the last epoch of the ephemerides among the items
abbrev pub times_in : Done → Option Times
times_in (Job done) = times_of_job done
times_in (Stream counts) = counts.times
times_in (File counts) = counts.times
times_in (Merged counts) = counts.times
