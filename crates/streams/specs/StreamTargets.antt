-- What a stream is converted to: a leading text, and one for each item.
use Rattle.streams.specs.declared.target.Target.{Target}
use Rattle.streams.specs.declared.target.Target.TheVariants as targets
use Rattle.streams.specs.declared.stream_target.StreamTo.{StreamTo}
use Rattle.streams.specs.declared.stream_target.StreamTo.TheVariants as streams

-- the target of the items of a stream
abbrev pub target_of_stream : StreamTo → Target
target_of_stream (streams.Rinex words) = targets.Rinex words
target_of_stream (streams.Rinex3 words) = targets.Rinex3 words
target_of_stream streams.Rtcm = targets.Rtcm
