use Rattle.all_systems.proofs.MergeLaws.{file_merge}
use Rattle.all_systems.proofs.merge_laws.a_merged_file_has_the_merge_of_gps_and_galileo.Goals as goal

pub returns : goal.returns
returns c = file_merge c.merging_of_all_systems.ensures.navs
