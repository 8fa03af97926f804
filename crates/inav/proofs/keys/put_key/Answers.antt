use Rattle.inav.proofs.Inserting.{in_inserted, there_not_added}
use Rattle.inav.proofs.keys.put_key.Goals as goal

pub returns-clause-there : goal.returns-clause-there
returns-clause-there c = there_not_added c.args.keys.now c.args.key c.in_ok-added.added c.in_ok-added.ensures.added

pub returns-clause-keys : goal.returns-clause-keys
returns-clause-keys c = in_inserted c.args.keys.now c.insert.new.self c.args.key c.in_ok-added.ensures.updates
