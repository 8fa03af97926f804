use Rattle.rtcm_eph.proofs.Items.{item_gives, item_only, item_whole}
use Rattle.rtcm_eph.proofs.laws.item_function.Goals as goal

pub returns-clause-answer : goal.returns-clause-answer
returns-clause-answer c = item_gives

pub returns-clause-only : goal.returns-clause-only
returns-clause-only c = item_only

pub returns-clause-whole : goal.returns-clause-whole
returns-clause-whole c = item_whole
