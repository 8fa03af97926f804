-- What is read of the counts of a conversion that is done.
use Rattle.std.specs.Prelude.{ℕ, Option, None, Some}
use Rattle.streams.specs.declared.times.Times.{Times}
use Rattle.captures.specs.declared.seed_target.SeedCounts.TheVariants.{Written, Counted}
use Rattle.bridge_engine.specs.declared.done.Done.{Done}
use Rattle.bridge_engine.specs.declared.done.Done.TheVariants.{Frames, Capture, Stream, File, Sent, Merged, Covered, Generated}

-- how many items were made: complete periods, items, or those in a merged file
abbrev pub made_of : Done → Option ℕ
made_of (Frames counts) = None
made_of (Capture counts) = Some counts.whole
made_of (Stream counts) = Some counts.items
made_of (File counts) = Some counts.items
made_of (Sent counts) = Some counts.items
made_of (Merged counts) = Some counts.kept
made_of (Covered counts) = Some counts.items
made_of (Generated (Written bytes)) = None
made_of (Generated (Counted counts)) = Some counts.whole

-- how many frames, lines or records were rejected
abbrev pub refused_of : Done → Option ℕ
refused_of (Frames counts) = None
refused_of (Capture counts) = Some counts.refused
refused_of (Stream counts) = Some counts.refused
refused_of (File counts) = Some counts.refused
refused_of (Sent counts) = Some counts.refused
refused_of (Merged counts) = Some counts.refused
refused_of (Covered counts) = Some counts.refused
refused_of (Generated (Written bytes)) = None
refused_of (Generated (Counted counts)) = Some counts.refused

-- the first and the last epoch of the items
abbrev pub times_in : Done → Option Times
times_in (Frames counts) = None
times_in (Capture counts) = counts.times
times_in (Stream counts) = counts.times
times_in (File counts) = counts.times
times_in (Sent counts) = counts.times
times_in (Merged counts) = counts.times
times_in (Covered counts) = counts.times
times_in (Generated (Written bytes)) = None
times_in (Generated (Counted counts)) = counts.times
