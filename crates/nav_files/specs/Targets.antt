-- What a file is converted to.
use Rattle.streams.specs.declared.target.Target.{Target}
use Rattle.streams.specs.declared.target.Target.TheVariants as targets
use Rattle.nav_files.specs.declared.target.RinexTo.{RinexTo}
use Rattle.nav_files.specs.declared.target.RinexTo.TheVariants as files

-- the target of the items of a file
abbrev pub target_of_file : RinexTo → Target
target_of_file (files.Rinex words) = targets.Rinex words
target_of_file (files.Rinex3 words) = targets.Rinex3 words
target_of_file files.Rtcm = targets.Rtcm
target_of_file files.ToList = targets.ToList
