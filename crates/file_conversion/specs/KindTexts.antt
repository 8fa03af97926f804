-- What is reported of the format of a file.
use Rattle.std.specs.Prelude.{ℕ, List, codes}
use Rattle.whole_file.specs.declared.kinds.Kind.{Kind}
use Rattle.whole_file.specs.declared.kinds.Kind.TheVariants.{Empty, Capture1, Capture2, Rinex4, Rinex3, Rinex2, Observations, Hatanaka, OtherRinex, Stream, Ubx, Sbf, Nmea, Gzip, Compress, Zip, Marked, Unknown}

-- a description of the format
abbrev pub kind_text : Kind → List ℕ
kind_text Empty = codes "an empty file"
kind_text Capture1 = codes "a capture without a week"
kind_text Capture2 = codes "a capture with a week"
kind_text Rinex4 = codes "a navigation file of RINEX 4"
kind_text Rinex3 = codes "a navigation file of RINEX 3"
kind_text Rinex2 = codes "a navigation file of RINEX 2"
kind_text Observations = codes "an observation file of RINEX"
kind_text Hatanaka = codes "an observation file in Hatanaka's compact format"
kind_text OtherRinex = codes "a RINEX file, but no navigation file of version 2 to 4"
kind_text Stream = codes "an RTCM 3 stream"
kind_text Ubx = codes "a receiver's log of UBX messages"
kind_text Sbf = codes "a receiver's log of SBF blocks"
kind_text Nmea = codes "a log of NMEA 0183"
kind_text Gzip = codes "packed by gzip"
kind_text Compress = codes "packed by compress"
kind_text Zip = codes "an archive of zip"
kind_text Marked = codes "a text with a byte order mark in front"
kind_text Unknown = codes "of no known format"
