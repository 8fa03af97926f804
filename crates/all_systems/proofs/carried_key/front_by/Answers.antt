use Rattle.std.proofs.Common.{ap, sym, ◌∙◌}
use Rattle.all_systems.specs.CarriedOrder.{front_by}
use Rattle.all_systems.proofs.CarriedFronts.{date_said, no_date}
use Rattle.all_systems.proofs.carried_key.front_by.Goals as goal

pub returns-in-Ok : goal.returns-in-Ok
returns-in-Ok c = c.dated_front.ensures ∙ ap (front_by c.args.title.now) (sym (date_said c.args.line.now _ c.in-Ok.ensures))

pub returns-in-Err : goal.returns-in-Err
returns-in-Err c = ap (front_by c.args.title.now) (sym (no_date c.args.line.now _ c.in-Err.ensures))
