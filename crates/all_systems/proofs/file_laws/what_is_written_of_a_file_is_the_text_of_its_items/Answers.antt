use Rattle.all_systems.proofs.HeldTexts.{last_carried, last_items, whole_alone, whole_texts}
use Rattle.all_systems.proofs.file_laws.what_is_written_of_a_file_is_the_text_of_its_items.Goals as goal

pub returns-clause-text : goal.returns-clause-text
returns-clause-text c = whole_texts

pub returns-clause-items : goal.returns-clause-items
returns-clause-items c = last_items

pub returns-clause-carried : goal.returns-clause-carried
returns-clause-carried c = last_carried

pub returns-clause-alone : goal.returns-clause-alone
returns-clause-alone c = whole_alone
