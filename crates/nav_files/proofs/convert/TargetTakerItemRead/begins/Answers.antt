use Rattle.std.proofs.Common.{◌++◌}
use Rattle.std.specs.List.{flat_map}
use Rattle.streams.specs.Targets.{prefix_text, item_text}
use Rattle.one_run.proofs.Surface.{prefix_after, prefix_more, prefix_trans}
use Rattle.nav_files.specs.Files.{read_report, read_text}
use Rattle.nav_files.proofs.FileEnds.{texts_prefix}
use Rattle.nav_files.proofs.convert.TargetTakerItemRead.begins.Goals as goal

pub returns-clause-text : goal.returns-clause-text
returns-clause-text c = λ some more. prefix_after (prefix_text c.args.self.now) _ _ (texts_prefix (read_text (item_text c.args.self.now)) some more)

pub returns-clause-told : goal.returns-clause-told
returns-clause-told c = λ some more. prefix_trans _ _ _ (texts_prefix read_report some more) (prefix_more (flat_map read_report (some ++ more)) _)

pub returns-clause-more : goal.returns-clause-more
returns-clause-more c = λ some more. texts_prefix read_report some more

pub returns-clause-grows : goal.returns-clause-grows
returns-clause-grows c = λ some more. prefix_after (prefix_text c.args.self.now) _ _ (texts_prefix (read_text (item_text c.args.self.now)) some more)
