use Rattle.std.proofs.Common.{◌++◌}
use Rattle.std.specs.List.{flat_map}
use Rattle.one_run.proofs.Surface.{prefix_after, prefix_more, prefix_trans}
use Rattle.nav_files.specs.Sends.{outcome_report, outcome_text, send_outcomes}
use Rattle.sent_captures.specs.Sendable.{sent_head}
use Rattle.nav_files.proofs.SentLemmas.{sent_prefix, text_prefix}
use Rattle.nav_files.proofs.sending.SendingTakerItemRead.begins.Goals as goal

pub returns-clause-text : goal.returns-clause-text
returns-clause-text c = λ some more. sent_prefix c.args.self.now.r some more

pub returns-clause-told : goal.returns-clause-told
returns-clause-told c = λ some more.
    prefix_trans _ _ _ (text_prefix c.args.self.now.r outcome_report some more) (prefix_more (flat_map outcome_report (send_outcomes c.args.self.now.r 0 (some ++ more))) _)

pub returns-clause-more : goal.returns-clause-more
returns-clause-more c = λ some more. text_prefix c.args.self.now.r outcome_report some more

pub returns-clause-grows : goal.returns-clause-grows
returns-clause-grows c = λ some more. prefix_after sent_head _ _ (text_prefix c.args.self.now.r outcome_text some more)
