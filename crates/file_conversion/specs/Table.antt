-- The conversions of files: what is done with a file of a format, for each target.
use Rattle.std.specs.Prelude.{ℕ, Option, None, Some, option_map, unwrap_or}
use Rattle.rinex_write.specs.declared.words.HeaderWords.{HeaderWords}
use Rattle.captures.specs.declared.target.CaptureTo.{CaptureTo}
use Rattle.captures.specs.declared.target.CaptureTo.TheVariants as captures
use Rattle.streams.specs.declared.target.Target.{Target as Outlet}
use Rattle.streams.specs.declared.target.Target.TheVariants as outlets
use Rattle.bridge_engine.specs.declared.job.Job.TheVariants as jobs
use Rattle.all_systems.specs.declared.version.Version.{Version}
use Rattle.all_systems.specs.declared.version.Version.TheVariants.{Four, Three}
use Rattle.whole_file.specs.declared.kinds.Kind.{Kind}
use Rattle.whole_file.specs.declared.kinds.Kind.TheVariants as kinds
use Rattle.file_conversion.specs.declared.table.Plan.{Plan}
use Rattle.file_conversion.specs.declared.table.Task.{Task}
use Rattle.file_conversion.specs.declared.table.Task.TheVariants.{Copied, Does, Systems, SystemFile, SystemMerge}
use Rattle.file_conversion.specs.declared.targets.Target.{Target}
use Rattle.file_conversion.specs.declared.targets.Target.TheVariants.{Rinex, Rinex3, Rtcm, List as ToList, Count, Frames, Merged, Merged3, Cover, Capture}

-- the targets of a capture, and of the ephemerides of all systems, with this header if they have one
abbrev pub capture_to : Target → HeaderWords → Option CaptureTo
capture_to Rinex header = Some (captures.Rinex header)
capture_to Rinex3 header = Some (captures.Rinex3 header)
capture_to Rtcm header = Some captures.Rtcm
capture_to ToList header = Some captures.ToList
capture_to Count header = Some captures.Count
capture_to _ header = None

abbrev pub systems_to : Target → HeaderWords → Option Outlet
systems_to Rinex header = Some (outlets.Rinex header)
systems_to Rinex3 header = Some (outlets.Rinex3 header)
systems_to Rtcm header = Some outlets.Rtcm
systems_to ToList header = Some outlets.ToList
systems_to Count header = Some outlets.Count
systems_to _ header = None

-- the week that is named, or else that of the clock
abbrev pub week_of : Plan → ℕ
week_of plan = unwrap_or plan.week plan.clock_week

-- a capture that is given this week
abbrev pub capture_task : Plan → Option ℕ → Option Task
capture_task plan week = option_map (λ to. Does (jobs.Capture (record { week = week; to = to }))) (capture_to plan.target plan.header)

-- a log is converted as its capture, and to a capture it is that capture itself
abbrev pub log_task : Plan → Target → Option Task
log_task plan Capture = Some Copied
log_task plan _ = capture_task plan plan.week

-- a stream: its frames, or its ephemerides of all systems
abbrev pub stream_task : Plan → Target → Option Task
stream_task plan Frames = Some (Does jobs.StreamToFrames)
stream_task plan target =
    option_map (λ to. Systems (record { kinds = plan.kinds; week = week_of plan; to = to })) (systems_to target plan.header)

-- a navigation file of this version: its ephemerides of all systems
abbrev pub system_task : Plan → Version → Target → Option Task
system_task plan version target =
    option_map (λ to. SystemFile (record { kinds = plan.kinds; version = version; to = to })) (systems_to target plan.header)

-- several, which are merged to one of this version
abbrev pub merge_task : Plan → Version → Option Task
merge_task plan to = Some (SystemMerge (record { kinds = plan.kinds; to = to; header = plan.header }))

-- one of RINEX 4
abbrev pub file4_task : Plan → Target → Option Task
file4_task plan Merged = merge_task plan Four
file4_task plan Merged3 = merge_task plan Three
file4_task plan Cover = Some (Does jobs.Cover)
file4_task plan Capture = Some (Does (jobs.SendRinex (week_of plan)))
file4_task plan target = system_task plan Four target

-- and one of RINEX 3 or 2
abbrev pub file3_task : Plan → Target → Option Task
file3_task plan Capture = Some (Does (jobs.SendRinex3 (week_of plan)))
file3_task plan target = system_task plan Three target

-- What is done with a file that is read under a format, if there is a conversion of it. A capture
-- that names no week always gets one, and a capture that names its week gets one only if one is
-- named.
abbrev pub task_for : Plan → Kind → Option Task
task_for plan kinds.Capture1 = capture_task plan (Some (week_of plan))
task_for plan kinds.Capture2 = capture_task plan plan.week
task_for plan kinds.Stream = stream_task plan plan.target
task_for plan kinds.Rinex4 = file4_task plan plan.target
task_for plan kinds.Rinex3 = file3_task plan plan.target
task_for plan kinds.Rinex2 = file3_task plan plan.target
task_for plan kinds.Ubx = log_task plan plan.target
task_for plan kinds.Sbf = log_task plan plan.target
task_for plan _ = None
