use Rattle.std.proofs.Common.{◌∙◌, rules, refl}
use Rattle.navconvert.proofs.Commanded.{rows_grown}
use Rattle.navconvert.proofs.command.with_rows.Goals as goal

pub loop-row-preserved : goal.loop-row-preserved
loop-row-preserved c =
    c.in_ok-command.ensures.shape c.option_of.ensures.local
    ∙ rows_grown _ _ c.args.rows.now c.loop-row.row-index _ _ c.loop-row.invariant c.option_of.ensures.rule (search rules) refl
