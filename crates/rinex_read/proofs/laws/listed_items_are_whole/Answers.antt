use Rattle.rinex_read.specs.Form3.{rinex3}
use Rattle.rinex_read.specs.Forms.{rinex4}
use Rattle.rinex_read.proofs.ListedLemmas.{list_whole}
use Rattle.rinex_read.proofs.laws.listed_items_are_whole.Goals as goal

pub returns-clause-list : goal.returns-clause-list
returns-clause-list c = list_whole rinex4 c.gives_whole.ensures

pub returns-clause-list3 : goal.returns-clause-list3
returns-clause-list3 c = list_whole rinex3 c.gives_whole-2.ensures
