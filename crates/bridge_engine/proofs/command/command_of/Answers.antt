use Rattle.std.proofs.Common.{◌∙◌, refl, rules}
use Rattle.bridge_engine.proofs.Rules.{command_grown}
use Rattle.bridge_engine.proofs.command.command_of.Goals as goal

pub loop-name-preserved : goal.loop-name-preserved
loop-name-preserved c =
    c.in_ok-command.ensures.shape c.option_of.ensures.local
    ∙ command_grown _ _ c.args.names.now c.loop-name.name-index _ _ c.loop-name.invariant c.option_of.ensures.rule (search rules) refl
