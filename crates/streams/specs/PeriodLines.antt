-- The line of a period in a list.
use Rattle.std.specs.Prelude.{ℕ, List, ◌++◌, codes, decimal}
use Rattle.nav_eph.specs.Numbers.{gps_ion_number, gal_ion_number}
use Rattle.periods.specs.declared.key.PeriodKey.{PeriodKey}
use Rattle.periods.specs.declared.key.PeriodKey.TheVariants.{Gps, Gal, GpsIon, GalIon}
use Rattle.periods.specs.declared.closed.Closed.{Closed}
use Rattle.periods.specs.declared.closed.Verdict.{Verdict}
use Rattle.periods.specs.declared.closed.Verdict.TheVariants.{Whole, Partial, Contradicted, NoHealth, Again}
use Rattle.streams.specs.ItemTexts.{issue_text}
use Rattle.one_run.specs.Texts.{hex_digits}

-- the key of a period: an ephemeris by satellite and issue of data, ionosphere parameters by system and their bits
abbrev pub key_text : PeriodKey → List ℕ
key_text (Gps sat issue) = issue_text sat issue
key_text (Gal sat issue) = issue_text sat issue
key_text (GpsIon content) = codes "ION G " ++ hex_digits 16 (gps_ion_number content)
key_text (GalIon content) = codes "ION E " ++ hex_digits 11 (gal_ion_number content)

-- the verdict on a period in one word
abbrev pub verdict_text : Verdict → List ℕ
verdict_text (Whole item) = codes "whole"
verdict_text Partial = codes "partial"
verdict_text Contradicted = codes "contradicted"
verdict_text NoHealth = codes "nohealth"
verdict_text Again = codes "again"

-- the line of a period in a list: its end, its key, and the verdict
unfoldable pub list_period : Closed → List ℕ
list_period c = ((((decimal c.end ++ codes " ") ++ key_text c.key) ++ codes " ") ++ verdict_text c.verdict) ++ codes "\n"
