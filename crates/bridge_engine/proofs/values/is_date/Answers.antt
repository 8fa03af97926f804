use Rattle.std.proofs.Common.{rules, refl}
use Rattle.bridge_engine.proofs.Dates.{date_form}
use Rattle.bridge_engine.proofs.values.is_date.Goals as goal

pub returns : goal.returns
returns c = date_form c.args.text.now c.are_digits-2.result (search rules) (search rules) (c.if-not-is_same.ensures.0 refl) (search rules) (search rules)
