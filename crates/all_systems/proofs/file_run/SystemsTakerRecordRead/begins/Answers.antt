use Rattle.streams.specs.Targets.{prefix_text}
use Rattle.one_run.proofs.Surface.{prefix_after, prefix_more, prefix_trans}
use Rattle.nav_files.proofs.Surface.{texts_prefix}
use Rattle.all_systems.specs.Files.{read_report, read_text}
use Rattle.all_systems.proofs.file_run.SystemsTakerRecordRead.begins.Goals as goal

pub returns-clause-grows : goal.returns-clause-grows
returns-clause-grows c = λ some more. prefix_after (prefix_text c.args.self.now.to) _ _ (texts_prefix (read_text c.args.self.now.to) some more)

pub returns-clause-text : goal.returns-clause-text
returns-clause-text c = λ some more.
    prefix_trans _ _ _ (prefix_after (prefix_text c.args.self.now.to) _ _ (texts_prefix (read_text c.args.self.now.to) some more)) (prefix_more _ _)

pub returns-clause-told : goal.returns-clause-told
returns-clause-told c = λ some more. prefix_trans _ _ _ (texts_prefix read_report some more) (prefix_more _ _)

pub returns-clause-more : goal.returns-clause-more
returns-clause-more c = λ some more. texts_prefix read_report some more
