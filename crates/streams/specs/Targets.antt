-- The output of items and periods: a first text, one for each, and a last one.
use Rattle.std.specs.Prelude.{ℕ, List, []}
use Rattle.nav_eph.specs.declared.items.NavItem.{NavItem}
use Rattle.periods.specs.declared.closed.Closed.{Closed}
use Rattle.periods.specs.declared.closed.Verdict.{Verdict}
use Rattle.periods.specs.declared.closed.Verdict.TheVariants.{Whole}
use Rattle.rinex_write.specs.Texts.{header_lines, text_of}
use Rattle.rinex_write.specs.Texts3.{header3_lines, item3_lines}
use Rattle.streams.specs.ItemTexts.{rinex_item, rtcm_item, list_item}
use Rattle.streams.specs.declared.target.Target.{Target}
use Rattle.streams.specs.declared.target.Target.TheVariants.{Rinex, Rinex3, Rtcm, ToList, Count}
use Rattle.streams.specs.PeriodLines.{list_period}

-- the record of an ephemeris (RINEX 3.05); nothing for ionosphere parameters
abbrev pub rinex3_item : NavItem → List ℕ
rinex3_item item = text_of (item3_lines item)

-- the first text: the header of a navigation file, else nothing
abbrev pub prefix_text : Target → List ℕ
prefix_text (Rinex words) = text_of (header_lines words)
prefix_text (Rinex3 words) = text_of (header3_lines words)
prefix_text Rtcm = []
prefix_text ToList = []
prefix_text Count = []

-- the text of an item; a list has the line number of its record
abbrev pub item_text : Target → ℕ → NavItem → List ℕ
item_text (Rinex words) line item = rinex_item item
item_text (Rinex3 words) line item = rinex3_item item
item_text Rtcm line item = rtcm_item item
item_text ToList line item = list_item line item
item_text Count line item = []

-- the text of the item of a complete period; nothing for any other
abbrev pub verdict_item : (NavItem → List ℕ) → Verdict → List ℕ
verdict_item text (Whole item) = text item
verdict_item text _ = []

-- the text of a closed period
abbrev pub period_text : Target → Closed → List ℕ
period_text (Rinex words) c = verdict_item rinex_item c.verdict
period_text (Rinex3 words) c = verdict_item rinex3_item c.verdict
period_text Rtcm c = verdict_item rtcm_item c.verdict
period_text ToList c = list_period c
period_text Count c = []

-- the last text: the counts, if only these are asked for
abbrev pub back_text : Target → List ℕ → List ℕ
back_text (Rinex words) counts = []
back_text (Rinex3 words) counts = []
back_text Rtcm counts = []
back_text ToList counts = []
back_text Count counts = counts
