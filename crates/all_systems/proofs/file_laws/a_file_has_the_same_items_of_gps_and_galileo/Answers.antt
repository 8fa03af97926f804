use Rattle.all_systems.proofs.HeldTexts.{early_navs, late_navs}
use Rattle.all_systems.proofs.Items.{file_navs, file_texts}
use Rattle.all_systems.proofs.file_laws.a_file_has_the_same_items_of_gps_and_galileo.Goals as goal

pub returns-clause-items : goal.returns-clause-items
returns-clause-items c = file_navs

pub returns-clause-text : goal.returns-clause-text
returns-clause-text c = file_texts

pub returns-clause-early : goal.returns-clause-early
returns-clause-early c = early_navs

pub returns-clause-late : goal.returns-clause-late
returns-clause-late c = late_navs
