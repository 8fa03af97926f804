use Rattle.std.proofs.Common.{ap, refl}
use Rattle.all_systems.specs.Merging.{item_of, navs_of, rows_of}
use Rattle.all_systems.specs.FileMirrors.{view_given}
use Rattle.all_systems.proofs.Merges.{given_nav, given_row, navs_stay, rows_stay}
use Rattle.all_systems.proofs.merge.merge_given.Goals as goal

pub returns-in-Nav-clause-navs : goal.returns-in-Nav-clause-navs
returns-in-Nav-clause-navs c = given_nav _ _ _ _ _ (ap view_given c.in-Nav.is) c.merge_nav.ensures.kept

pub returns-in-Nav-clause-rows : goal.returns-in-Nav-clause-rows
returns-in-Nav-clause-rows c = rows_stay _ (view_given c.args.given.now) _ _ refl (ap (λ g. rows_of (item_of (view_given g))) c.in-Nav.is)

pub returns-in-Further-clause-navs : goal.returns-in-Further-clause-navs
returns-in-Further-clause-navs c = navs_stay _ (view_given c.args.given.now) _ _ refl (ap (λ g. navs_of (item_of (view_given g))) c.in-Further.is)

pub returns-in-Further-clause-rows : goal.returns-in-Further-clause-rows
returns-in-Further-clause-rows c = given_row _ _ _ _ _ (ap view_given c.in-Further.is) c.merge_row.ensures.kept
