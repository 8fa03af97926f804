use Rattle.std.proofs.Common.{◌∙◌}
use Rattle.std.specs.BTreeSet.{insert_key}
use Rattle.nav_files.specs.Numbers.{by_numbers}
use Rattle.nav_files.proofs.file_items.FileItems.add.Goals as goal

pub returns-clause-ok : goal.returns-clause-ok
returns-clause-ok c = c.in_ok-insert.ensures.keys ∙ (λ i. insert_key by_numbers (c.self.view_is i) (c.new.ensures i))
