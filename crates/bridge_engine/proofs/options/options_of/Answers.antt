use Rattle.std.proofs.Common.{◌∙◌, sym}
use Rattle.clap.specs.Words.{found_of}
use Rattle.bridge_engine.proofs.Outcomes.{dashes_give_none, matched, no_true, refused}
use Rattle.bridge_engine.proofs.options.options_of.Goals as goal

pub returns-then-has_only_dashes : goal.returns-then-has_only_dashes
returns-then-has_only_dashes c = dashes_give_none _ (sym c.if-has_only_dashes.ensures)

pub returns-in-Ok : goal.returns-in-Ok
returns-in-Ok c =
    matched _ c.args.words.now (found_of c.in-Ok.matches) _ _ c.in_ok-command.ensures (sym c.if-has_only_dashes.ensures) c.in-Ok.ensures.kinds c.in-Ok.ensures.matches c.found_in.ensures

pub returns : goal.returns
returns c =
    refused _ c.args.words.now c.in-Err.error c.in_ok-command.ensures (sym c.if-has_only_dashes.ensures) c.in-Err.ensures.kinds
    (λ memory. no_true (rw (c.kind.ensures ∙ memory) at c.if-eq.ensures))
