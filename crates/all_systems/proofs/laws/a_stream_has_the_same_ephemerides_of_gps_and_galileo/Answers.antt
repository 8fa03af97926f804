use Rattle.framing.specs.Frames.{frames}
use Rattle.all_systems.proofs.Parts.{navs_of_stream}
use Rattle.all_systems.proofs.laws.a_stream_has_the_same_ephemerides_of_gps_and_galileo.Goals as goal

pub returns : goal.returns
returns c ks r bytes = navs_of_stream ks r (frames bytes)
