-- Which format is recognised of the bytes that a conversion accepts.
use Rattle.std.specs.Prelude.{◌≡◌, ◌⊎◌}
use Rattle.bridge_engine.specs.declared.job.Job.{Job}
use Rattle.bridge_engine.specs.declared.job.Job.TheVariants as jobs
use Rattle.whole_file.specs.declared.kinds.Kind.{Kind}
use Rattle.whole_file.specs.declared.kinds.Kind.TheVariants as kinds

-- That of what the conversion reads: a capture, or a navigation file of its version. Nothing for a
-- stream, as which any bytes are accepted, nor for a conversion that reads nothing.
abbrev pub IsReportedFor : Job → Kind → Type 0
IsReportedFor jobs.StreamToFrames kind = Unit {0}
IsReportedFor (jobs.Capture job) kind = (kind ≡ kinds.Capture1) ⊎ (kind ≡ kinds.Capture2)
IsReportedFor (jobs.Stream job) kind = Unit {0}
IsReportedFor (jobs.Rinex to) kind = kind ≡ kinds.Rinex4
IsReportedFor (jobs.Rinex3 to) kind = kind ≡ kinds.Rinex3
IsReportedFor (jobs.SendRinex week) kind = kind ≡ kinds.Rinex4
IsReportedFor (jobs.SendRinex3 week) kind = kind ≡ kinds.Rinex3
IsReportedFor (jobs.Merge header) kind = kind ≡ kinds.Rinex4
IsReportedFor jobs.Cover kind = kind ≡ kinds.Rinex4
IsReportedFor (jobs.Seed job) kind = Unit {0}
