-- When an ephemeris was sent, as C has it.
use Rattle.std.specs.Prelude.{◌==◌, if◌then◌else◌, pos}
use Rattle.nav_eph.specs.declared.items.SentSecond.{SentSecond}
use Rattle.nav_eph.specs.declared.items.SentSecond.TheVariants.{Unknown, At}
use Rattle.raw_values.specs.declared.sent_raw.SentRaw.{SentRaw}

-- the transmission time that the numbers say
abbrev pub sent_in : SentRaw → SentSecond
sent_in raw = if raw.is_known == 0 then Unknown else At raw.second

-- the numbers that say it
abbrev pub raw_sent : SentSecond → SentRaw
raw_sent Unknown = record { is_known = 0; second = pos 0 }
raw_sent (At second) = record { is_known = 1; second = second }
