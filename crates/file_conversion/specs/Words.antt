-- The arguments and the file name endings of formats and targets.
use Rattle.std.specs.Prelude.{ℕ, List, Option, None, Some, codes, bytes_eq, if◌then◌else◌}
use Rattle.whole_file.specs.declared.kinds.Kind.{Kind}
use Rattle.whole_file.specs.declared.kinds.Kind.TheVariants as kinds
use Rattle.file_conversion.specs.declared.targets.Target.{Target}
use Rattle.file_conversion.specs.declared.targets.Target.TheVariants.{Rinex, Rinex3, Rtcm, List as ToList, Count, Frames, Merged, Merged3, Cover, Capture}

-- the value of `--to`
abbrev pub to_word : Target → List ℕ
to_word Rinex = codes "rinex"
to_word Rinex3 = codes "rinex3"
to_word Rtcm = codes "rtcm"
to_word ToList = codes "list"
to_word Count = codes "count"
to_word Frames = codes "frames"
to_word Merged = codes "merged"
to_word Merged3 = codes "merged3"
to_word Cover = codes "cover"
to_word Capture = codes "capture"

-- the ending of the output's file name
abbrev pub ending_of : Target → List ℕ
ending_of Rinex = codes "rnx"
ending_of Rinex3 = codes "rnx"
ending_of Rtcm = codes "rtcm3"
ending_of ToList = codes "list"
ending_of Count = codes "count"
ending_of Frames = codes "frames"
ending_of Merged = codes "merged.rnx"
ending_of Merged3 = codes "merged.rnx"
ending_of Cover = codes "cover"
ending_of Capture = codes "navcap"

-- the format that a `--from` word names; `capture` is taken as one that names no week
abbrev pub kind_named : List ℕ → Option Kind
kind_named word =
    if bytes_eq word (codes "capture") then Some kinds.Capture1
    else if bytes_eq word (codes "stream") then Some kinds.Stream
    else if bytes_eq word (codes "rinex") then Some kinds.Rinex4
    else if bytes_eq word (codes "rinex3") then Some kinds.Rinex3
    else if bytes_eq word (codes "rinex2") then Some kinds.Rinex2
    else if bytes_eq word (codes "ubx") then Some kinds.Ubx
    else if bytes_eq word (codes "sbf") then Some kinds.Sbf
    else None

-- the target that a `--to` word names
abbrev pub target_named : List ℕ → Option Target
target_named word =
    if bytes_eq word (codes "rinex") then Some Rinex
    else if bytes_eq word (codes "rinex3") then Some Rinex3
    else if bytes_eq word (codes "rtcm") then Some Rtcm
    else if bytes_eq word (codes "list") then Some ToList
    else if bytes_eq word (codes "count") then Some Count
    else if bytes_eq word (codes "frames") then Some Frames
    else if bytes_eq word (codes "merged") then Some Merged
    else if bytes_eq word (codes "merged3") then Some Merged3
    else if bytes_eq word (codes "cover") then Some Cover
    else if bytes_eq word (codes "capture") then Some Capture
    else None
