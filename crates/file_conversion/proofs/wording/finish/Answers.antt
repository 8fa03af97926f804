use Rattle.std.proofs.Common.{◌∙◌}
use Rattle.file_conversion.proofs.Statuses.{status_told}
use Rattle.file_conversion.proofs.wording.finish.Goals as goal

pub returns-in-Err-clause-refused : goal.returns-in-Err-clause-refused
returns-in-Err-clause-refused g c =
    rw c.in-Err.is (c.refuse-in-Err.ensures.status ∙ rw c.refusal_of.ensures (status_told c.in-Err.stop c.args.name c.args.part))

pub returns-in-Err-clause-told : goal.returns-in-Err-clause-told
returns-in-Err-clause-told g c = rw c.in-Err.is (rw c.refusal_of.ensures at c.refuse-in-Err.ensures.says)
