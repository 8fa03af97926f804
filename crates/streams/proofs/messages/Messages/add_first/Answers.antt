use Rattle.std.proofs.Common.{sym, ◌∙◌}
use Rattle.streams.proofs.MessageKeys.{adds_first_to, after_err, after_ok}
use Rattle.streams.proofs.messages.Messages.add_first.Goals as goal
use Rattle.streams.proofs.messages.Messages.add_first.Goals.{in-Ok-insert, in-Err-insert}

pub returns-clause-adds : goal.returns-clause-adds
returns-clause-adds g c =
    let before = c.self.inside in
    let at_end = c.len-place.ensures ∙ before.list.ok.0 in
    elim c.match-insert.branch [
      | in-Ok-insert w ↦ after_ok _ c.match-insert.result _ w.result-is
          (adds_first_to c.args.self.now before.firsts c.insert.new.self
          before.list.items c.push.new.self.items before.others c.args.message.now c.args.hash _
          (sym c.self.view_is) c.self.invariant c.requires.none c.requires.hash
          at_end c.in-Ok.ensures.items w.in-Ok-insert.ensures.updates)
      | in-Err-insert w ↦ after_err _ c.match-insert.result _ w.result-is
    ]
